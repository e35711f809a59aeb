-- The starred probes of document 01 ("Probes"), as one list, and what no starred probe shows; then ours for the changes of
-- document 02.
use mathlib.Core.{Bool.Bool, Bool.true, Bool.false, List.List, List.[], List.◌∷◌}
use Rattle.std.specs.Prelude.{ℕ, zero, suc, ◌+◌, ◌-◌, ◌^◌}
use Rattle.literals.specs.{Bits.Bits, Bits.bits_of, Patterns.Exact, Patterns.Cidr, Patterns.Wildcard, Patterns.IpRange}
use Rattle.expr.specs.{Answers.Answer, Answers.ok, Answers.refuse, Form.encode, Form.encode_core, Terms.Alias, Terms.Assign, Terms.Assigns, Terms.Atom, Terms.Binary, Terms.Core, Terms.Difference, Terms.Direct, Terms.Dup, Terms.Expr, Terms.IfThenElse, Terms.Intersect, Terms.Let, Terms.LetBitRange, Terms.Matches, Terms.One, Terms.Op2, Terms.Plain, Terms.Ranged, Terms.Sequence, Terms.Star, Terms.Test, Terms.TestNegation, Terms.Tests, Terms.Unary, Terms.Union, Terms.Use, Terms.Var, Terms.Xor, Terms.Zero, Terms.leaf, Terms.size, Terms.two}
use Rattle.desugar.specs.{Desugar.desugar_bytes, Desugar.work_for}

-- what the program of document 01 asks with: allowance 1,000, work memory to match, an answer buffer of 7,000 bytes
abbrev pub asked : List ℕ → Answer (List ℕ × ℕ)
asked bs = desugar_bytes bs 1000 (work_for 1000) 7000

-- a term's bytes; the core that Desugar gives, its bytes, how many nodes it has, and the drawn total
pub record Probe : Type 0 where
  pub term : List ℕ
  pub core : Core
  pub bytes : List ℕ
  pub nodes : ℕ
  pub total : ℕ

-- what a probe says: Desugar's answer, the core's bytes and its size; and what these are by the definitions
abbrev pub stated : Probe → Answer (List ℕ × ℕ) × List ℕ × ℕ
stated p = (ok (p.bytes, p.total), p.bytes, p.nodes)

abbrev pub computed : Probe → Answer (List ℕ × ℕ) × List ℕ × ℕ
computed p = (asked p.term, encode_core p.core, size p.core)

-- a probe of a written term
abbrev pub gives : Expr → Core → (nodes total : ℕ) → Probe
gives e c n t = record { term = encode e; core = c; bytes = encode_core c; nodes = n; total = t }

abbrev pub test : ℕ → Bool → Core
test f v = leaf (Test f v)

abbrev pub both : Core → Core → Core
both a b = two Intersect a b

-- "v/n is value v in n bits"
abbrev pub literal : ℕ → ℕ → Bits
literal v n = bits_of n v

-- Test(0,1) ^ Test(1,1), written and as a core
abbrev pub xors : Expr
xors = Binary Xor (Plain (Test 0 true)) (Plain (Test 1 true))

abbrev pub xored : Core
xored = two Xor (test 0 true) (test 1 true)

-- "a star marks its sentence": the starred sentences in their order. Where a sentence has no node count or drawn total, these are ours
abbrev pub starred : List Probe
starred =
    -- "x[0..2] == 1/2: `49 18 02 00 00 00 02 01` gives `01 08 21 06 01 05 06 01 00 00 00`, drawn 3."
    record {
      term = 0x49 ∷ 0x18 ∷ 0x02 ∷ 0x00 ∷ 0x00 ∷ 0x00 ∷ 0x02 ∷ 0x01 ∷ [];
      core = both (test 0 true) (test 1 false);
      bytes = 0x01 ∷ 0x08 ∷ 0x21 ∷ 0x06 ∷ 0x01 ∷ 0x05 ∷ 0x06 ∷ 0x01 ∷ 0x00 ∷ 0x00 ∷ 0x00 ∷ [];
      nodes = 3;
      total = 3;
    }
    ∷ gives (Ranged (Direct 0 2) (Tests (literal 1 2))) (both (test 0 true) (test 1 false)) 3 3
    -- "x[3..3] with an empty literal, test or assign: One." "Its negation: Zero."
    ∷ gives (Ranged (Direct 3 3) (Tests [])) (leaf One) 1 1
    ∷ gives (Ranged (Direct 3 3) (Assigns [])) (leaf One) 1 1
    ∷ gives (TestNegation (Ranged (Direct 3 3) (Tests []))) (leaf Zero) 1 2
    ∷ gives (TestNegation (Ranged (Direct 3 3) (Assigns []))) (leaf Zero) 1 2
    -- "Alias [4, 8) == 5/3: fields 4 to 7 are 1, 0, 1, 0, drawn 7."
    ∷ gives (LetBitRange 1 4 8 (Ranged (Alias 1) (Tests (literal 5 3))))
    (both (test 4 true) (both (test 5 false) (both (test 6 true) (test 7 false)))) 7 7
    -- "[0, 8) CIDR 160/8 prefix 3: fields 5, 6, 7 are 1, 0, 1."
    ∷ gives (Ranged (Direct 0 8) (Matches (Cidr (literal 160 8) 3))) (both (test 5 true) (both (test 6 false) (test 7 true))) 5 5
    -- "[0, 2) from 1 to 2: 11 nodes." "0 to 3: One."
    ∷ gives (Ranged (Direct 0 2) (Matches (IpRange (literal 1 2) (literal 2 2))))
    (both
    (two Union (test 1 true) (both (test 1 false) (test 0 true)))
    (two Union (test 1 false) (both (test 1 true) (test 0 false)))) 11 11
    ∷ gives (Ranged (Direct 0 2) (Matches (IpRange (literal 0 2) (literal 3 2)))) (leaf One) 1 1
    -- "Negated Test(0,1) ^ Test(1,1): Difference(One, Xor), drawn 8." "Negated twice: Union(Zero, Xor), drawn 13."
    ∷ gives (TestNegation xors) (two Difference (leaf One) xored) 5 8
    ∷ gives (TestNegation (TestNegation xors)) (two Union (leaf Zero) xored) 5 13
    -- "if Test(0,1) then One else Zero: seven nodes, One still there."
    ∷ gives (IfThenElse (Plain (Test 0 true)) (Plain One) (Plain Zero))
    (two Union (two Sequence (test 0 true) (leaf One)) (two Sequence (test 0 false) (leaf Zero))) 7 7
    -- "Alias a over [0, 4), v = (a == 1/1), a again over [8, 12), body v: fields 0 to 3."
    ∷ gives (LetBitRange 1 0 4 (Let 2 (Ranged (Alias 1) (Tests (literal 1 1))) (LetBitRange 1 8 12 (Var 2))))
    (both (test 0 true) (both (test 1 false) (both (test 2 false) (test 3 false)))) 7 14
    ∷ []

-- What no starred probe shows: a Sequence drops a One on either side, a Difference's right side is desugared again, the other negations,
-- and a wildcard, lowest field first
abbrev pub further : List Probe
further =
    gives (Binary Sequence (Plain One) (Plain (Test 0 true))) (test 0 true) 1 2
    ∷ gives (Binary Sequence (Plain (Test 0 true)) (Plain One)) (test 0 true) 1 2
    ∷ gives (Binary Sequence (Plain (Test 0 true)) (Plain Zero)) (two Sequence (test 0 true) (leaf Zero)) 3 3
    ∷ gives (TestNegation (Binary Difference (Plain (Test 0 true)) (IfThenElse (Plain (Test 0 true)) (Plain One) (Plain Zero))))
    (two Union (test 0 false) (two Union (test 0 true) (two Sequence (test 0 false) (leaf Zero)))) 7 16
    ∷ gives (TestNegation (Binary Union (Plain (Test 0 true)) (Plain (Test 1 false)))) (both (test 0 false) (test 1 true)) 3 6
    ∷ gives (TestNegation (Binary Intersect (Plain (Test 0 true)) (Plain (Test 1 false)))) (two Union (test 0 false) (test 1 true)) 3 6
    ∷ gives (TestNegation (Binary Sequence (Plain (Test 0 true)) (Plain (Test 1 false)))) (two Union (test 0 false) (test 1 true)) 3 6
    ∷ gives (Ranged (Direct 0 4) (Matches (Wildcard (literal 9 4) (literal 2 4)))) (both (test 0 true) (both (test 2 false) (test 3 true))) 5 5
    ∷ []

-- ## Refusals

-- a call of Desugar that is refused: the term's bytes, the allowance, the lengths of work memory and answer buffer; the number and the place
pub record Refused : Type 0 where
  pub term : List ℕ
  pub allowance : ℕ
  pub work : ℕ
  pub room : ℕ
  pub number : ℕ
  pub place : ℕ

abbrev pub answered : Refused → Answer (List ℕ × ℕ)
answered r = desugar_bytes r.term r.allowance r.work r.room

abbrev pub refused_by : Refused → Answer (List ℕ × ℕ)
refused_by r = refuse r.number r.place

-- as the program of document 01 asks, of bytes and of a written term
abbrev pub malformed : List ℕ → (number place : ℕ) → Refused
malformed bs r p = record { term = bs; allowance = 1000; work = work_for 1000; room = 7000; number = r; place = p }

abbrev pub refuses : Expr → (number place : ℕ) → Refused
refuses e r p = malformed (encode e) r p

-- with an allowance n
abbrev pub spends : Expr → (n : ℕ) → (number place : ℕ) → Refused
spends e n r p = record { term = encode e; allowance = n; work = work_for n; room = 7000; number = r; place = p }

-- as bytes, in front of the bytes bs: n Stars, and n levels of Unions over Zeros
abbrev pub stars : ℕ → List ℕ → List ℕ
stars zero bs = bs
stars (suc n) bs = 1 ∷ 14 ∷ stars n bs

abbrev pub unions : ℕ → List ℕ → List ℕ
unions zero bs = 0 ∷ bs
unions (suc n) bs = 1 ∷ 7 ∷ unions n (unions n bs)

-- an alias over [s, e) and a use of it
abbrev pub aliased : ℕ → ℕ → Use → Expr
aliased s e u = LetBitRange 1 s e (Ranged (Alias 1) u)

-- each number that Desugar answers, with most of the orders that document 01 names
abbrev pub refusals : List Refused
refusals =
    -- "1 bytes used up." "Then the kind, if its bit stands: 1 no byte left, 4 zero, 2 above 26. Then 3, a map bit that the kind lacks."
    malformed [] 1 0 ∷ malformed (1 ∷ []) 1 0 ∷ malformed (1 ∷ 0 ∷ []) 4 0 ∷ malformed (1 ∷ 14 ∷ 1 ∷ 27 ∷ []) 2 1 ∷ malformed (3 ∷ 27 ∷ []) 2 0
    ∷ malformed (3 ∷ 1 ∷ []) 3 0
    -- "Then fields in map order: 1 bytes lacking, 4 zero, 5 out of range.": a name; a Test's value; a pattern; a literal's length and spare bits
    ∷ malformed (3 ∷ 20 ∷ 1 ∷ []) 1 0 ∷ malformed (3 ∷ 20 ∷ 0 ∷ 0 ∷ []) 4 0 ∷ malformed (33 ∷ 6 ∷ 2 ∷ []) 5 0 ∷ malformed (17 ∷ 25 ∷ 4 ∷ []) 5 0
    ∷ malformed (65 ∷ 24 ∷ 0 ∷ []) 4 0 ∷ malformed (65 ∷ 24 ∷ 193 ∷ []) 5 0 ∷ malformed (65 ∷ 24 ∷ 192 ∷ []) 1 0 ∷ malformed (65 ∷ 24 ∷ 1 ∷ 2 ∷ []) 4 0
    -- "Bits 5 and 7 are judged there (3) right after bit 4's turn"
    ∷ malformed (33 ∷ 25 ∷ []) 3 0 ∷ malformed (145 ∷ 25 ∷ 1 ∷ []) 3 0
    -- "Before a record: 6 more than 4,096 records, 7 depth over 256 (the root is at 1), 1 bytes used up.": 6 and 7 with a record there and without
    ∷ malformed (unions 12 []) 6 4096 ∷ malformed (1 ∷ 7 ∷ unions 11 []) 6 4096 ∷ malformed (stars 256 (0 ∷ [])) 7 256 ∷ malformed (stars 256 []) 7 256
    -- "8 bytes left over, place the record count"
    ∷ malformed (0 ∷ 0 ∷ []) 8 1 ∷ malformed (1 ∷ 14 ∷ 0 ∷ 0 ∷ []) 8 2
    -- "9 allowance outside 1 to 65,535; 10 work memory under 8 × allowance + 8,192 numbers of 32 bits; form"
    ∷ record { term = []; allowance = 0; work = 0; room = 0; number = 9; place = 0 }
    ∷ record { term = []; allowance = 65536; work = work_for 65536; room = 0; number = 9; place = 0 }
    ∷ record { term = []; allowance = 1; work = 8199; room = 0; number = 10; place = 0 }
    -- "11 unknown alias in assign, test or match. 12 unbound variable. 13 plain variable that only an alias has. 14 range end below start."
    ∷ refuses (Ranged (Alias 1) (Tests (literal 1 1))) 11 0 ∷ refuses (Var 1) 12 0 ∷ refuses (LetBitRange 1 0 4 (Var 1)) 13 1
    ∷ refuses (aliased 5 3 (Tests (literal 1 1))) 14 1
    -- "15 literal longer than the alias, or Exact pattern longer than its field. 16 direct range literal not exactly the width."
    ∷ refuses (aliased 4 8 (Tests (literal 5 5))) 15 1 ∷ refuses (Ranged (Direct 0 2) (Matches (Exact (literal 5 3)))) 15 0
    ∷ refuses (Ranged (Direct 4 8) (Tests (literal 5 3))) 16 0
    -- "17 CIDR prefix above the width. 18 CIDR address length not the width.", "17 before 18"
    ∷ refuses (Ranged (Direct 0 8) (Matches (Cidr (literal 160 7) 9))) 17 0 ∷ refuses (Ranged (Direct 0 8) (Matches (Cidr (literal 32 7) 3))) 18 0
    -- "19 wildcard address or mask length not the width."
    ∷ refuses (Ranged (Direct 0 4) (Matches (Wildcard (literal 9 3) (literal 2 4)))) 19 0
    ∷ refuses (Ranged (Direct 0 4) (Matches (Wildcard (literal 9 4) (literal 2 3)))) 19 0
    -- "20 range pattern on a field over 128 bits, or with a bound longer than the field. 21 range start above range end.", "20 before 21"
    ∷ refuses (Ranged (Direct 0 129) (Matches (IpRange (literal 1 1) (literal 0 1)))) 20 0
    ∷ refuses (Ranged (Direct 0 2) (Matches (IpRange (literal 7 3) (literal 1 2)))) 20 0
    ∷ refuses (Ranged (Direct 0 2) (Matches (IpRange (literal 2 2) (literal 1 2)))) 21 0
    -- "In one node 14 comes first", "24 last"
    ∷ refuses (aliased 5 3 (Tests (literal 5 5))) 14 1 ∷ spends (Ranged (Direct 4 8) (Tests (literal 5 3))) 1 16 0
    -- "22 negation of a non-test. 23 if-condition not a test.", "Children go left to right, then the node's own rules and draw."
    ∷ refuses (Unary Star (TestNegation (Plain Dup))) 22 1 ∷ refuses (IfThenElse (Plain Dup) (Plain One) (Plain Zero)) 23 0
    ∷ refuses (IfThenElse (Plain Dup) (Plain One) (Var 1)) 12 3
    -- "24 a draw beyond the allowance.", at the draw that goes beyond it, in walking order with the rules
    ∷ spends (Ranged (Direct 0 2) (Tests (literal 1 2))) 2 24 0
    ∷ spends (Binary Union (Ranged (Direct 0 2) (Tests (literal 1 2))) (Var 1)) 2 24 1
    ∷ spends (Binary Union (Var 1) (Ranged (Direct 0 2) (Tests (literal 1 2)))) 2 12 1
    ∷ spends (Binary Union (Plain One) (Plain One)) 2 24 0
    -- "26 encoded core longer than the answer buffer"
    ∷ record { term = 1 ∷ 1 ∷ []; allowance = 1; work = work_for 1; room = 1; number = 26; place = 0 }
    ∷ []

-- ## Change 6 of document 02: "Literals may be up to 192 bits, so refusal 5 begins at 193."

-- fields have the value v, each joined to what follows: the n fields from s on, and those from n - 1 down to 0
abbrev pub upward : Op2 → (ℕ → Bool → Atom) → Bool → (s n : ℕ) → Core → Core
upward o f v s zero c = c
upward o f v s (suc n) c = two o (leaf (f s v)) (upward o f v (suc s) n c)

abbrev pub downward : Bool → (n : ℕ) → Core
downward v zero = leaf One
downward v (suc zero) = test 0 v
downward v (suc (suc n)) = both (test (suc n) v) (downward v (suc n))

-- "A label stack of six 32-bit words has 192 bits": the lowest word has all bits, the highest word its highest bit, the others none
abbrev pub stack : Bits
stack = literal (2 ^ 191 + (2 ^ 32 - 1)) 192

-- its core over the fields from s on
abbrev pub stacked : Op2 → (ℕ → Bool → Atom) → ℕ → Core
stacked o f s = upward o f true s 32 (upward o f false (s + 32) 159 (leaf (f (s + 191) true)))

abbrev pub longer : List Probe
longer =
    -- "and our users write it as one literal.": a test from field 32 on, an assignment, an Exact of an alias
    gives (Ranged (Direct 32 224) (Tests stack)) (stacked Intersect Test 32) 383 383
    ∷ gives (Ranged (Direct 0 192) (Assigns stack)) (stacked Sequence Assign 0) 383 383
    ∷ gives (LetBitRange 1 32 224 (Ranged (Alias 1) (Matches (Exact stack)))) (stacked Intersect Test 32) 383 383
    -- over 200 fields, the highest of which are then false
    ∷ gives (LetBitRange 1 0 200 (Ranged (Alias 1) (Tests (literal (2 ^ 191) 192))))
    (upward Intersect Test false 0 191 (both (test 191 true) (upward Intersect Test false 192 7 (test 199 false)))) 399 399
    -- the two highest bits by a CIDR; the bits 0, 128 and 191 by a wildcard
    ∷ gives (Ranged (Direct 0 192) (Matches (Cidr stack 2))) (both (test 190 false) (test 191 true)) 3 3
    ∷ gives (Ranged (Direct 0 192) (Matches (Wildcard stack (literal (2 ^ 192 - 1 - (2 ^ 191 + 2 ^ 128 + 1)) 192))))
    (both (test 0 true) (both (test 128 false) (test 191 true))) 5 5
    -- "Range patterns keep their 128-bit field limit.": from 2^127 - 1 to 2^127, and all values
    ∷ gives (Ranged (Direct 0 128) (Matches (IpRange (literal (2 ^ 127 - 1) 128) (literal (2 ^ 127) 128))))
    (both
    (two Union (test 127 true) (both (test 127 false) (downward true 127)))
    (two Union (test 127 false) (both (test 127 true) (downward false 127)))) 515 515
    ∷ gives (Ranged (Direct 0 128) (Matches (IpRange (literal 0 128) (literal (2 ^ 128 - 1) 128)))) (leaf One) 1 1
    ∷ []

-- and what is refused there
abbrev pub too_long : List Refused
too_long =
    -- "refusal 5 begins at 193": literal A, and literal B
    refuses (Ranged (Direct 0 193) (Tests (literal 1 193))) 5 0 ∷ refuses (Ranged (Direct 0 192) (Matches (Wildcard (literal 1 192) (literal 1 193)))) 5 0
    -- "Everything that takes or compares a literal has a new limit to live with": 15 to 19 with literals of 192 bits
    ∷ refuses (aliased 0 191 (Tests (literal 1 192))) 15 1 ∷ refuses (Ranged (Direct 0 191) (Matches (Exact (literal 1 192)))) 15 0
    ∷ refuses (Ranged (Direct 0 193) (Assigns (literal 1 192))) 16 0
    ∷ refuses (Ranged (Direct 0 192) (Matches (Cidr (literal 1 192) 193))) 17 0 ∷ refuses (Ranged (Direct 0 191) (Matches (Cidr (literal 1 192) 191))) 18 0
    ∷ refuses (Ranged (Direct 0 192) (Matches (Wildcard (literal 1 192) (literal 1 191)))) 19 0
    -- "Range patterns keep their 128-bit field limit.": a field of 129 bits, and a bound of 129 bits
    ∷ refuses (Ranged (Direct 0 129) (Matches (IpRange (literal 0 129) (literal 1 129)))) 20 0
    ∷ refuses (Ranged (Direct 0 128) (Matches (IpRange (literal 0 128) (literal 1 129)))) 20 0
    ∷ []
