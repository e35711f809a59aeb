-- The theorems on the definitions: the three demands, then what stands behind them. A reviewer reads the statements here first; each proof
-- is a few lines that cite the laws beside this file and in the crates below. The definitions that a statement uses stand in specs/; only
-- the host's struct, HostAnswer, is declared in src/lib.rt.
use mathlib.Core.Path.{◌≡◌, refl, ap, subst, ◌∙◌}
use mathlib.Core.Logic.{◌↔◌}
use mathlib.Core.Bool.{Bool, true, false, cond, not}
use mathlib.Core.Option.{some}
use mathlib.Core.List.{List, [], ◌∷◌, map, Memᴰ}
use Prim.Native.Nat.{ℕ, ◌+◌, ◌-◌, ◌/◌, ◌%◌, ◌^◌, ◌≤◌, ◌<◌}
use native.Mathlib.Nat.{zero-add}
use native.Mathlib.Numerals.{add-one}
use lib.Dec.{leb}
use lib.ListN.{length, get_or, replicate, take, drop}
use Rattle.literals.specs.Bits.{Bits, Bytes, bit, bit_at, bits_of}
use Rattle.literals.specs.Comparing.{SameTop, StopsWhenDecided, looked_at}
use Rattle.literals.specs.Patterns.{IpRange, Pattern}
use Rattle.literals.specs.Reading.{fault, literal}
use Rattle.literals.proofs.Bits.{bit_of_bytes}
use Rattle.literals.proofs.Codec.{literal_limit}
use Rattle.literals.proofs.Comparing.{looked_first, looked_none, stops_when_decided}
use Rattle.expr.specs.Answers.{map_answer, ok, refuse}
use Rattle.expr.specs.Form.{Fits, Within, decode, encode, encode_core, written}
use Rattle.expr.specs.Operations.{fields_bytes, substitute_bytes}
use Rattle.expr.specs.Terms.{Alias, Assign, Core, Direct, Expr, Intersect, LetBitRange, Matches, Name, Plain, Ranged, Star, Test, Tests, Unary, Use, Var, Where, Zero, leaf, one, records, size, two}
use Rattle.expr.proofs.FormTheorem.{bytes_of_encode, decode_encode, form_exact}
use Rattle.desugar.specs.Bindings.{Env, compute_subrange, find_range}
use Rattle.desugar.specs.Claims.{Limit, drawn_total}
use Rattle.desugar.specs.CoreRecords.{words}
use Rattle.desugar.specs.Costs.{cost}
use Rattle.desugar.specs.Desugar.{desugar, desugar_bytes}
use Rattle.desugar.specs.Meter.{left}
use Rattle.desugar.specs.Packets.{Others, one_step}
use Rattle.desugar.specs.Probes.{answered, computed, further, longer, refusals, refused_by, stack, starred, stars, stated, too_long}
use Rattle.desugar.proofs.Costs.{cost_is_draw, cost_spends, range_draws_most}
use Rattle.desugar.proofs.Limit.{limit}
use Rattle.desugar.proofs.Probes.{further_probes, longer_probes, refused_probes, starred_probes, too_long_probes}
use Rattle.costs.specs.Lent.{lent_cost}
use Rattle.cores.specs.Claims.{AsForTerms, CoreNumber}
use Rattle.cores.specs.Reading.{CoreWithin, decode_core, into_list, read_core, read_cores}
use Rattle.cores.proofs.CoreForm.{core_exact, decode_many, equal_records, read_back}
use Rattle.cores.proofs.CoreTerms.{core_as_term, same_fields}
use Rattle.packets.specs.Claims.{EachBit, PacketsNumber, total}
use Rattle.packets.specs.Running.{packet_bytes, packet_of, run_packets}
use Rattle.packets.proofs.Meaning.{packet_lies, ran_alone, ran_as, ran_means, ran_small, ran_unused}
use Rattle.netkat.specs.Check.{RulesHold, check, check_bytes, first_failure, test_sort}
use Rattle.netkat.specs.Claims.{Accepted, AtPoint, CostNumber, Desugared, Desugars, Good, Inside, PointAt, RangeLimit, Refusal, TakesWhole}
use Rattle.netkat.specs.Demands.{Declined, Demand1, Demand2, Demand3}
use Rattle.netkat.specs.Entry.{Answers, Call, HostsCore}
use Rattle.netkat.specs.Points.{Point, Scope, definitions, desugar_at, walk}
use Rattle.netkat.specs.declared.Answer.{Answer as HostAnswer}
use Rattle.netkat.proofs.AtPoint.{desugar_at_answers, desugar_at_means, desugar_at_succeeds}
use Rattle.netkat.proofs.Costs.{cost_drawn, cost_numbers}
use Rattle.netkat.proofs.Declines.{packets_decided, packets_declined_numbers}
use Rattle.netkat.proofs.Demands.{each_call, never_zero, points_and_whole, trees_and_forms}
use Rattle.netkat.proofs.Inside.{each_record, inside_points, walk_inside, walk_length}
use Rattle.netkat.proofs.LongLiterals.{accepted_alias, accepted_direct, range_alias, range_direct}
use Rattle.netkat.proofs.Numbers.{Numbered, desugar_at_numbers}
use Rattle.netkat.proofs.ReadBack.{made, made_reads, read_numbers, stored_reads}
use Rattle.netkat.proofs.Rules.{behind_rule, none_fails, rules_append}
use Rattle.netkat.proofs.Whole.{check_bytes_fact, desugar_bytes_fact, desugared_bytes, refused_bytes}

-- ## The three demands (specs/Demands.antt)

-- "Malformed bytes, broken rules, numbers out of range, a spent allowance and short buffers are refused, each by its number and place in
-- document 01, with the answer buffer untouched. All other input is accepted. Every call on any bytes ends.": of every exported function,
-- whose contract is Answers (specs/Entry.antt). That a call ends is part of what the prover shows of each function
pub demand_1 : (c : Call) (out out' : List ℕ) (r : HostAnswer) → Answers c out out' r → Demand1 (Declined c (length out)) out out' r
demand_1 = each_call

-- "A call answers success or a refusal number with a place.": no refusal of an operation has the number 0, by which a host tells success
pub number_theorem : (c : Call) (room k p : ℕ) → Declined c room k p → 1 ≤ k
number_theorem = never_zero

-- "For every term within document 01's limits, with an allowance and buffers that cover it, the core is the tree that `desugar` gives, and a
-- refusal is of the kind it gives. Each literal, prefix, wildcard and range form is proved to hold of, or set, exactly the field values
-- that document 01 defines from NetKAT's packet meaning." `others` is any meaning of the kinds that are not one-step
pub demand_2 : (others : Others) → Demand2 others
demand_2 = trees_and_forms

-- "Take any term of good form, any point of it, and the lets and aliases around that point, where the definitions of those lets pass. The
-- check's rules 11 to 23, on scope, width, order and tests, hold at that point and at every point below it exactly when desugaring the
-- subterm there, with no limit on allowance or buffers, is not refused. Where it is not refused, and the subterm and those definitions use
-- only the one-step kinds, then for every two packets p and q the subterm's core relates p to q exactly when its own written meaning there
-- does. For the whole term the claim is also made, as document 01 puts it, of what Check and Desugar answer, whatever the allowance and the
-- buffers."
pub demand_3 : (others : Others) → Demand3 others
demand_3 = points_and_whole

-- ## Form: what is accepted

-- A list of bytes is of good form exactly if it is the encoding of a term within the limits (expr/specs/Form.antt: Within), and then it
-- is read as that term: nothing is read in two ways
pub form_theorem : (bs : List ℕ) (e : Expr) → Bytes bs → (decode bs ≡ ok e) ↔ (Within e × (bs ≡ encode e))
form_theorem = form_exact

-- and every term within the limits has such an encoding
pub encode_theorem : (e : Expr) → Within e → Bytes (encode e) × (decode (encode e) ≡ ok e)
encode_theorem e w = (bytes_of_encode e w.fits, decode_encode e w)

-- ## The allowance

-- There is a threshold: with an allowance of at least that the answer is the one without limit; with less it is 24 at the first draw beyond
-- the allowance. Where the walk has a result, the threshold is the sum of its draws in walking order, and that much is taken; where a
-- rule fails, the list of draws is one that sets the threshold and the places of 24 (desugar/specs/Claims.antt: Limit)
pub limit_theorem : (env : Env Core) (e : Expr) (at : ℕ) → (ds : List (ℕ × ℕ)) × Limit env e at ds
limit_theorem = limit

-- ## At any point of any term

pub at_any_point : (others : Others) (sc : Scope) (e : Expr) (at : ℕ) → AtPoint others sc e at
at_any_point others sc e at =
    record {
      succeeds = desugar_at_succeeds sc e at;
      passing = λ h. (
        (λ c. ((desugar_at_succeeds sc e at).0 c).1),
        (λ k. (desugar_at_succeeds sc e at).1 (h, k)),
      );
      answers = desugar_at_answers sc e at;
      numbers = λ r p h. subst (Numbered 11 23) h (desugar_at_numbers sc e at);
      means = desugar_at_means others sc e at;
    }

-- "a point is a record of the term, with the subterm that begins there": as many as its records, one at each, and each with the
-- subterm that begins there and what stands around it (specs/Claims.antt: Inside has a case for each way down)
pub points_are_records : (e : Expr) → (length (walk [] e 0) ≡ records e) × ((i : ℕ) → i < records e → PointAt (walk [] e 0) i)
points_are_records e = (walk_length [] e 0, λ i h. rw (zero-add i) at (each_record [] e 0 i h))

-- and so of the points from any record on down
pub points_lie_inside : (sc : Scope) (e : Expr) (at : ℕ) (p : Point) → Memᴰ p (walk sc e at) → Inside p.scope p.term p.place sc e at
points_lie_inside = walk_inside

-- where Check succeeds on a whole term, desugaring succeeds at each of its points
pub everywhere : (e : Expr) (s : Bool) → check [] e 0 ≡ ok s → (p : Point) → Memᴰ p (walk [] e 0)
    → (c : Core) × (desugar_at p.scope p.term p.place ≡ ok c)
everywhere e s h p m =
    let r : RulesHold (walk [] e 0) = (none_fails (walk [] e 0)).0 (behind_rule (first_failure (walk [] e 0)) h).0 in
    (desugar_at_succeeds p.scope p.term p.place).1
    ((rules_append (definitions p.scope) (walk p.scope p.term p.place)).0
    (λ q n. r q (inside_points (walk_inside [] e 0 p m) q n)))

-- ## The whole term on its bytes, whatever the allowance and the buffers

-- "Check, unless a list lent to it is too short, succeeds exactly where the form is good and rules 11 to 23 hold at every record": it is lent
-- none. "Success says whether the term is a test."
pub check_theorem : (bs : List ℕ) (s : Bool) → (check_bytes bs ≡ ok s) ↔ ((e : Expr) × Good bs e × (s ≡ test_sort [] e))
check_theorem bs s = check_bytes_fact bs s

-- "where Check succeeds, Desugar succeeds or answers 9, 10, 24 or 26, each only for its cause above" (specs/Claims.antt: Desugars, Outcome): 24
-- only if the draws, in walking order, come to more than the allowance, and then at the first that goes beyond it
pub desugar_theorem : (bs : List ℕ) (s : Bool) → check_bytes bs ≡ ok s → (e : Expr) × Good bs e × Desugars bs e
desugar_theorem bs s h = let g = (check_bytes_fact bs s).0 h in (g.0, g.1, desugar_bytes_fact bs g.0 g.1)

-- "where Desugar succeeds, Check refuses by neither form nor rule, and the bytes Desugar wrote are those of the core made without limit",
-- with the sum of its draws (specs/Claims.antt: Desugared)
pub desugared_theorem : (bs : List ℕ) (n work room : ℕ) (out : List ℕ) (m : ℕ) → desugar_bytes bs n work room ≡ ok (out, m)
    → ((s : Bool) × (check_bytes bs ≡ ok s)) × Desugared bs out m
desugared_theorem bs n work room out m h =
    let d : Desugared bs out m = desugared_bytes bs n work room out m h in
    ((test_sort [] d.term, (check_bytes_fact bs (test_sort [] d.term)).1 (d.term, d.good, refl)), d)

-- where Check refuses, Desugar answers 9, 10 or the same refusal, or 24 where the allowance is spent before the rule that fails
-- (specs/Claims.antt: Refusal)
pub refused_theorem : (bs : List ℕ) (r p : ℕ) → check_bytes bs ≡ refuse r p → (n work room : ℕ) → Refusal bs r p n work (desugar_bytes bs n work room)
refused_theorem = refused_bytes

-- ## Computed lists

-- "One-step kinds are all but Top, Dup, End, Complement, LtlNext, LtlUntil.": of the kinds 0 to 26 these six, 2, 3, 4, 13, 15 and 12, are not
pub one_step_theorem : map one_step (0 ∷ 1 ∷ 2 ∷ 3 ∷ 4 ∷ 5 ∷ 6 ∷ 7 ∷ 8 ∷ 9 ∷ 10 ∷ 11 ∷ 12 ∷ 13 ∷ 14 ∷ 15 ∷ 16 ∷ 17 ∷ 18 ∷ 19 ∷ 20 ∷ 21 ∷ 22 ∷ 23 ∷ 24 ∷ 25 ∷ 26 ∷ [])
    ≡ true ∷ true ∷ false ∷ false ∷ false ∷ true ∷ true
    ∷ true ∷ true ∷ true ∷ true ∷ true ∷ false ∷ false ∷ true ∷ false
    ∷ true ∷ true ∷ true ∷ true ∷ true ∷ true ∷ true ∷ true ∷ true ∷ true ∷ true ∷ []
one_step_theorem = refl

-- "The starred cases are proved from the definitions as one list under one theorem": "x[0..2] == 1/2: .." to the last starred sentence, each
-- with its answer, its core's bytes and its node count (desugar/specs/Probes.antt)
pub starred_theorem : map computed starred ≡ map stated starred
starred_theorem = starred_probes

-- what no starred probe shows of trees
pub further_theorem : map computed further ≡ map stated further
further_theorem = further_probes

-- "Numbers match the Rust's error kinds; places are ours.": each number that Desugar answers, by small inputs, with most of the orders that
-- document 01 names
pub refusals_theorem : map answered refusals ≡ map refused_by refusals
refusals_theorem = refused_probes

-- and what the others answer beside these: Field count 25, Subrange 28; Substitute by form of the term, then of the replacement, 27, then 26
pub other_refusals_theorem : (fields_bytes (encode (Plain (Test 4294967295 true))) ≡ refuse 25 0)
    × (compute_subrange 4 8 1 5 ≡ refuse 28 0)
    × (substitute_bytes [] 1 [] 7000 ≡ refuse 1 0)
    × (substitute_bytes (encode (Var 1)) 1 [] 7000 ≡ refuse 31 0)
    × (substitute_bytes (encode (Var 1)) 1 (0 ∷ 0 ∷ []) 7000 ≡ refuse 38 1)
    × (substitute_bytes (encode (Unary Star (Var 1))) 1 (stars 255 (0 ∷ [])) 0 ≡ refuse 27 0)
    × (substitute_bytes (encode (Var 1)) 1 (1 ∷ 1 ∷ []) 1 ≡ refuse 26 0)
other_refusals_theorem = (refl, refl, refl, refl, refl, refl, refl)

-- ## Change 1 of document 02: cores read back (cores/specs/Reading.antt)

-- A list of bytes is read as a core exactly if it is the encoding of that core, within the limits ("up to 65,535 records at any depth", fields of
-- four bytes: cores/specs/Reading.antt: CoreWithin): nothing is read in two ways
pub core_form_theorem : (bs : List ℕ) (c : Core) → Bytes bs → (decode_core bs ≡ ok c) ↔ (CoreWithin c × (bs ≡ encode_core c))
core_form_theorem = core_exact

-- the bytes of any such core read back to it, "unless 25 or 10 applies" (cores/specs/Reading.antt: into_list)
pub read_back_theorem : (c : Core) → CoreWithin c → (room : ℕ) → read_core (encode_core c) room ≡ into_list c room
read_back_theorem = read_back

-- "A core written by desugaring, unless 25 or 10 applies, reads back to the tree it came from": to the core made without limit, which Desugar wrote
-- (specs/Claims.antt: Desugared)
pub desugared_reads_back_theorem : (bs : List ℕ) → Bytes bs → (n work room : ℕ) (out : List ℕ) (m : ℕ) → desugar_bytes bs n work room ≡ ok (out, m)
    → (d : Desugared bs out m) × ((list : ℕ) → read_core out list ≡ into_list d.core list)
desugared_reads_back_theorem bs b n work room out m h = (made bs b n work room out m h, made_reads bs b n work room out m h)

-- and of what a host gets: where Desugar succeeded, the front of its buffer, whenever it is read, gives the records of that core, their count
-- and its field count, or 25 or 10
pub stored_theorem : (bs : List ℕ) → Bytes bs → (n work : ℕ) (out out' : List ℕ) (d : HostAnswer) → Answers (Call.Desugar bs n work) out out' d → d.number ≡ 0
    → (t : Desugared bs (take d.first out') d.second)
    × ((list list' : List ℕ) (r : HostAnswer) → Answers (Call.ReadCore (take d.first out')) list list' r → HostsCore (into_list t.core (length list)) list list' r)
stored_theorem = stored_reads

-- "two core byte strings that read to equal trees are equal": and so are two that give equal records
pub equal_trees_theorem : (bs cs : List ℕ) (room space : ℕ) (r s : Core × ℕ) → Bytes bs → Bytes cs → read_core bs room ≡ ok r → read_core cs space ≡ ok s
    → (r.0 ≡ s.0 → bs ≡ cs) × (words r.0 ≡ words s.0 → bs ≡ cs)
equal_trees_theorem bs cs room space r s b c d e =
    let same = equal_records bs cs room space r s b c d e in
    ((λ h. same (ap words h)), same)

-- "Form refusals hold as for terms, without 6 and 7": of any bytes, form says of a core what it says of a term, tree, number and place, unless 41 or 42
-- refuses the core, or 6 or 7 the term (cores/specs/Claims.antt: AsForTerms)
pub as_for_terms_theorem : (bs : List ℕ) → Bytes bs → AsForTerms (decode bs) (decode_core bs)
as_for_terms_theorem = core_as_term

-- so where Field count gives a count, it is the same one
pub core_fields_theorem : (bs : List ℕ) → Bytes bs → (room : ℕ) (r : Core × ℕ) (m : ℕ) → read_core bs room ≡ ok r → fields_bytes bs ≡ ok m → r.1 ≡ m
core_fields_theorem bs b room r m = same_fields bs room r m b

-- "42, more than 65,535 records, where 6 stood": at the record behind these, whatever the core; and before that record is looked at, whatever bytes
-- are left, or none
pub too_many_theorem : ((c : Core) → Fits (written c) → 65535 < size c → decode_core (encode_core c) ≡ refuse 42 65535)
    × ((due at : ℕ) (bs : List ℕ) → read_cores 0 (due + 1) at bs ≡ refuse 42 at)
too_many_theorem = (decode_many, (λ due at bs. rw (add-one due) refl))

-- by 1 to 5, 8, 41 or 42, then 25, then 10, and no other number (cores/specs/Claims.antt: CoreNumber), at a place of at most 65,535. Which of them it
-- is, `demand-1` says
pub core_numbers_theorem : (bs : List ℕ) → Bytes bs → (room r p : ℕ) → read_core bs room ≡ refuse r p → CoreNumber r × (p ≤ 65535)
core_numbers_theorem = read_numbers

-- the core of the first starred probe, with its records; 3 for each record, and no more, are asked for
pub core_read_theorem : (read_core (1 ∷ 8 ∷ 33 ∷ 6 ∷ 1 ∷ 5 ∷ 6 ∷ 1 ∷ 0 ∷ 0 ∷ 0 ∷ []) 9 ≡ ok (two Intersect (leaf (Test 0 true)) (leaf (Test 1 false)), 2))
    × (words (two Intersect (leaf (Test 0 true)) (leaf (Test 1 false))) ≡ 8 ∷ 0 ∷ 0 ∷ 6 ∷ 0 ∷ 1 ∷ 6 ∷ 1 ∷ 0 ∷ [])
    × (read_core (0 ∷ []) 3 ≡ ok (leaf Zero, 0))
    × (read_core (1 ∷ 14 ∷ 5 ∷ 5 ∷ 254 ∷ 255 ∷ 255 ∷ 255 ∷ []) 6 ≡ ok (one Star (leaf (Assign 4294967294 false)), 4294967295))
core_read_theorem = (refl, refl, refl, refl)

-- each refusal but 42 by small bytes, most with the next one's cause as well: 1 before and in the kind, 4, 2, 41 of the kinds 16 and 26, 3, in the field 1
-- and 4, 5; 1 at the second operand, 41 at the first; 8; 25 at the first of two; 10
pub core_refusals_theorem : (read_core [] 0 ≡ refuse 1 0)
    × (read_core (3 ∷ []) 0 ≡ refuse 1 0)
    × (read_core (3 ∷ 0 ∷ []) 0 ≡ refuse 4 0)
    × (read_core (3 ∷ 27 ∷ []) 0 ≡ refuse 2 0)
    × (read_core (3 ∷ 16 ∷ []) 0 ≡ refuse 41 0)
    × (read_core (3 ∷ 26 ∷ []) 0 ≡ refuse 41 0)
    × (read_core (7 ∷ 6 ∷ 0 ∷ []) 0 ≡ refuse 3 0)
    × (read_core (37 ∷ 6 ∷ 0 ∷ 0 ∷ 0 ∷ []) 0 ≡ refuse 1 0)
    × (read_core (37 ∷ 6 ∷ 0 ∷ 0 ∷ 0 ∷ 0 ∷ 2 ∷ []) 0 ≡ refuse 4 0)
    × (read_core (33 ∷ 6 ∷ 2 ∷ 0 ∷ []) 0 ≡ refuse 5 0)
    × (read_core (1 ∷ 8 ∷ 0 ∷ []) 0 ≡ refuse 1 2)
    × (read_core (1 ∷ 8 ∷ 1 ∷ 16 ∷ []) 0 ≡ refuse 41 1)
    × (read_core (5 ∷ 6 ∷ 255 ∷ 255 ∷ 255 ∷ 255 ∷ 0 ∷ []) 0 ≡ refuse 8 1)
    × (read_core (1 ∷ 8 ∷ 5 ∷ 6 ∷ 255 ∷ 255 ∷ 255 ∷ 255 ∷ 5 ∷ 5 ∷ 255 ∷ 255 ∷ 255 ∷ 255 ∷ []) 0 ≡ refuse 25 1)
    × (read_core (1 ∷ 8 ∷ 0 ∷ 0 ∷ []) 8 ≡ refuse 10 0)
core_refusals_theorem = (refl, refl, refl, refl, refl, refl, refl, refl, refl, refl, refl, refl, refl, refl, refl)

-- ## Change 2 of document 02: comparing bounds (literals/specs/Comparing.antt)

-- "how many of the field's bits it looked at: one more than the equal bits above that one, or the field's width if none differs": of two bounds
-- with n equal bits on top of a bit that differs, and of two that differ in none
pub looked_at_theorem : (w : ℕ) (a b : Bits)
    → ((n : ℕ) → n < w → SameTop w n a b → get_or b (w - (n + 1)) false ≡ not (get_or a (w - (n + 1)) false) → looked_at w a b ≡ n + 1)
    × (SameTop w w a b → looked_at w a b ≡ w)
looked_at_theorem w a b = ((λ n h s d. looked_first w a b n h s refl d), looked_none w a b)

-- "stop when it's decided": as many top bits as are looked at decide the order of two bounds, whatever stands below, and no fewer do
pub stops_when_decided_theorem : (w : ℕ) (a b : Bits) → length a ≤ w → length b ≤ w → StopsWhenDecided w a b
stops_when_decided_theorem = stops_when_decided

-- a field of no bits; the top bit; equal bounds; short bounds, whose false high bits are looked at too; the lowest of 128 bits
pub counted_theorem : (looked_at 0 [] [] ≡ 0)
    × (looked_at 8 (bits_of 8 128) (bits_of 8 127) ≡ 1)
    × (looked_at 128 (bits_of 128 0) (bits_of 128 (2 ^ 127)) ≡ 1)
    × (looked_at 8 (bits_of 8 5) (bits_of 8 5) ≡ 8)
    × (looked_at 8 (bits_of 3 5) (bits_of 8 4) ≡ 8)
    × (looked_at 8 (bits_of 3 4) (bits_of 8 64) ≡ 2)
    × (looked_at 8 [] [] ≡ 8)
    × (looked_at 128 (bits_of 1 1) [] ≡ 128)
counted_theorem = (refl, refl, refl, refl, refl, refl, refl, refl)

-- ## Change 5 of document 02: what a pattern will cost (desugar/specs/Costs.antt, costs/specs/Lent.antt)

-- "Prove that this number is the draw of the match desugared without limit": or both are refused, by one number at one place. Under any bindings,
-- on a range that is written out or that its alias has
pub cost_theorem : (env : Env Core) (w : Where) (s e : ℕ) → find_range env w ≡ some (s, e)
    → (p : Pattern) (at : ℕ) → drawn_total env (Ranged w (Matches p)) at ≡ cost p s e at
cost_theorem env w s e found p at = cost_is_draw env w p s e at found

-- "no range pattern draws more than 33,529"
pub range_cost_theorem : (env : Env Core) (w : Where) (a b : Bits) (at n : ℕ) → drawn_total env (Ranged w (Matches (IpRange a b))) at ≡ ok n → n ≤ 33529
range_cost_theorem = range_draws_most

-- and this one draws as much: on 128 fields, from 2^127 to the highest value without bit 126
pub highest_cost_theorem : drawn_total [] (Ranged (Direct 0 128) (Matches (IpRange (bits_of 128 (2 ^ 127)) (bits_of 128 (2 ^ 128 - 1 - 2 ^ 126))))) 0 ≡ ok 33529
highest_cost_theorem = cost_is_draw [] (Direct 0 128) (IpRange (bits_of 128 (2 ^ 127)) (bits_of 128 (2 ^ 128 - 1 - 2 ^ 126))) 0 128 0 refl ∙ refl

-- "refused as the match would be, but never by 24, 26 or lack of room": by 1, 5, 14, 15 or 17 to 21 (specs/Claims.antt: CostNumber), at place 0. Which
-- of them it is, `demand-1` says
pub cost_numbers_theorem : (s e p k : ℕ) (a b : List ℕ × ℕ) (r q : ℕ) → lent_cost s e p k a b ≡ refuse r q → CostNumber r × (q ≡ 0)
cost_numbers_theorem = cost_numbers

-- "Planners need the node count of a pattern before they spend allowance on it.": with n left of the allowance the match is refused by 24
-- exactly if it costs more, and else the cost is taken from it
pub spent_theorem : (env : Env Core) (w : Where) (s e : ℕ) → find_range env w ≡ some (s, e) → (p : Pattern) (at m : ℕ) → cost p s e at ≡ ok m
    → (n : ℕ) → map_answer (λ r. r.1) (desugar env (Ranged w (Matches p)) at (left n)) ≡ cond (leb m n) (ok (left (n - m))) (refuse 24 at)
spent_theorem env w s e found p at m h n = cost_spends env w p s e at m found h n

-- and on bytes: where Desugar succeeds on the match alone, the total that it answers is the cost
pub drawn_theorem : (p : Pattern) (s e : ℕ) → Within (Ranged (Direct s e) (Matches p)) → (n work room : ℕ) (out : List ℕ) (m : ℕ)
    → desugar_bytes (encode (Ranged (Direct s e) (Matches p))) n work room ≡ ok (out, m) → cost p s e 0 ≡ ok m
drawn_theorem = cost_drawn

-- the figures, of two literals as they are lent. An IpRange: "[0, 2) from 1 to 2: 11 nodes"; an upper bound, a lower bound, equal bounds, the full
-- range, no fields; short bounds. An Exact on 4 fields, none and 4,294,967,295; a Cidr with a prefix of 3, 0 and 192 bits; a Wildcard with
-- four, one and no clear mask bits. Bits and bytes behind a literal, and literal B of an Exact, are not looked at
pub figures_theorem : (lent_cost 0 2 3 0 (1 ∷ [], 2) (2 ∷ [], 2) ≡ ok 11)
    × (lent_cost 0 4 3 0 (0 ∷ [], 4) (10 ∷ [], 4) ≡ ok 15)
    × (lent_cost 0 4 3 0 (10 ∷ [], 4) (15 ∷ [], 4) ≡ ok 19)
    × (lent_cost 0 4 3 0 (10 ∷ [], 4) (10 ∷ [], 4) ≡ ok 7)
    × (lent_cost 0 4 3 0 (0 ∷ [], 4) (15 ∷ [], 4) ≡ ok 1)
    × (lent_cost 7 7 3 0 ([], 0) ([], 0) ≡ ok 1)
    × (lent_cost 0 8 3 0 (1 ∷ [], 1) (3 ∷ [], 2) ≡ ok 117)
    × (lent_cost 4 8 0 0 (5 ∷ [], 3) ([], 0) ≡ ok 7)
    × (lent_cost 3 3 0 0 ([], 0) ([], 0) ≡ ok 1)
    × (lent_cost 0 4294967295 0 0 (5 ∷ [], 3) ([], 0) ≡ ok 8589934589)
    × (lent_cost 0 8 1 3 (160 ∷ [], 8) ([], 0) ≡ ok 5)
    × (lent_cost 0 8 1 0 (160 ∷ [], 8) ([], 0) ≡ ok 1)
    × (lent_cost 0 192 1 192 (replicate 24 255, 192) ([], 0) ≡ ok 383)
    × (lent_cost 0 4 2 0 (5 ∷ [], 4) (0 ∷ [], 4) ≡ ok 7)
    × (lent_cost 0 4 2 0 (5 ∷ [], 4) (7 ∷ [], 4) ≡ ok 1)
    × (lent_cost 0 4 2 0 (5 ∷ [], 4) (15 ∷ [], 4) ≡ ok 1)
    × (lent_cost 0 2 3 0 (253 ∷ 9 ∷ [], 2) (254 ∷ [], 2) ≡ ok 11)
    × (lent_cost 4 8 0 7 (5 ∷ [], 3) ([], 4294967295) ≡ ok 7)
figures_theorem = (refl, refl, refl, refl, refl, refl, refl, refl, refl, refl, refl, refl, refl, refl, refl, refl, refl, refl)

-- each refusal by a small call, most of them with the next one's cause as well
pub cost_refusals_theorem : (lent_cost 4 3 4 0 ([], 193) ([], 193) ≡ refuse 5 0)
    × (lent_cost 4 3 3 0 (replicate 25 0, 193) ([], 1) ≡ refuse 5 0)
    × (lent_cost 4 3 3 0 (1 ∷ [], 9) ([], 193) ≡ refuse 1 0)
    × (lent_cost 4 3 2 0 (1 ∷ [], 8) (replicate 25 0, 193) ≡ refuse 5 0)
    × (lent_cost 4 3 3 0 (1 ∷ [], 8) ([], 1) ≡ refuse 1 0)
    × (lent_cost 4 3 0 0 (1 ∷ [], 8) ([], 0) ≡ refuse 14 0)
    × (lent_cost 0 7 0 0 (1 ∷ [], 8) ([], 0) ≡ refuse 15 0)
    × (lent_cost 0 7 1 8 (1 ∷ [], 8) ([], 0) ≡ refuse 17 0)
    × (lent_cost 0 7 1 7 (1 ∷ [], 8) ([], 0) ≡ refuse 18 0)
    × (lent_cost 0 7 2 0 (1 ∷ [], 8) (1 ∷ [], 7) ≡ refuse 19 0)
    × (lent_cost 0 7 2 0 (1 ∷ [], 7) (1 ∷ [], 8) ≡ refuse 19 0)
    × (lent_cost 0 129 3 0 (2 ∷ [], 2) (1 ∷ [], 2) ≡ refuse 20 0)
    × (lent_cost 0 7 3 0 (2 ∷ [], 8) (1 ∷ [], 7) ≡ refuse 20 0)
    × (lent_cost 0 7 3 0 (2 ∷ [], 7) (1 ∷ [], 8) ≡ refuse 20 0)
    × (lent_cost 0 7 3 0 (2 ∷ [], 7) (1 ∷ [], 7) ≡ refuse 21 0)
cost_refusals_theorem = (refl, refl, refl, refl, refl, refl, refl, refl, refl, refl, refl, refl, refl, refl, refl)

-- ## Change 6 of document 02: literals of up to 192 bits

-- "Literals may be up to 192 bits, so refusal 5 begins at 193.": of a length byte, whatever follows it
pub literal_limit_theorem : (n : ℕ) (bs : List ℕ) → (literal (n ∷ bs) ≡ fault 5) ↔ (193 ≤ n)
literal_limit_theorem = literal_limit

-- "A label stack of six 32-bit words has 192 bits and our users write it as one literal.": whatever the literal and wherever its fields lie, a
-- test of it, an assignment, an Exact, a CIDR and a wildcard over all its fields (specs/Claims.antt: TakesWhole), written out or by an alias, have
-- good form and keep the rules. Which values the core holds of, or sets, `demand-2` (forms) says for every length
pub long_literal_theorem : (a : Bits) → length a ≤ 192 → (s : ℕ) → s + length a < 2 ^ 32 → (u : Use) → TakesWhole a u
    → Accepted (Ranged (Direct s (s + length a)) u)
    × ((x : Name) → x < 2 ^ 16 → Accepted (LetBitRange x s (s + length a) (Ranged (Alias x) u)))
long_literal_theorem a short s inside u t = (accepted_direct a short s inside u t, accepted_alias a short s inside u t)

-- "Range patterns keep their 128-bit field limit.": on the fields from s up to e, written out or by an alias (specs/Claims.antt: RangeLimit)
pub range_limit_theorem : (s e : ℕ) (a b : Bits) → s ≤ e → e < 2 ^ 32 → length a ≤ 192 → length b ≤ 192
    → RangeLimit (Ranged (Direct s e) (Matches (IpRange a b))) a b (e - s) 0
    × ((x : Name) → x < 2 ^ 16 → RangeLimit (LetBitRange x s e (Ranged (Alias x) (Matches (IpRange a b)))) a b (e - s) 1)
range_limit_theorem s e a b h k l m = (range_direct s e a b h k l m, range_alias s e a b h k l m)

-- label stacks of 192 bits in each use and two range patterns on 128 fields, with their cores; what is refused at the limits
-- (desugar/specs/Probes.antt)
pub longer_theorem : map computed longer ≡ map stated longer
longer_theorem = longer_probes

pub too_long_theorem : map answered too_long ≡ map refused_by too_long
too_long_theorem = too_long_probes

-- and of a replacement: 35 begins at 193 bits too
pub longer_replacement_theorem : (substitute_bytes (encode (Var 1)) 1 (encode (Ranged (Direct 0 192) (Tests stack))) 31
    ≡ ok (encode (Ranged (Direct 0 192) (Tests stack))))
    × (substitute_bytes (encode (Var 1)) 1 (encode (Ranged (Direct 0 193) (Tests (bits_of 193 1)))) 7000 ≡ refuse 35 0)
longer_replacement_theorem = (refl, refl)

-- ## Change 8 of document 02: sixty-four packets in one pass (packets/specs/Running.antt)

-- "Each bit is the packet meaning of that core on that packet.": for every packet, bit i of an answer is true exactly if the core relates it to itself
-- (desugar/specs/Packets.antt: core_means), whatever the packet's fields beyond its bytes are (packets/specs/Claims.antt: EachBit, Continues)
pub each_bit_theorem : (others : Others) (core : List ℕ) (room : ℕ) (slice lengths : List ℕ) (m : ℕ) → run_packets core room slice lengths ≡ ok m
    → EachBit others core slice lengths m
each_bit_theorem others core room slice lengths m e = ran_means (ran_as core room slice lengths m e) others

-- "The answer is a 64-bit number ..; unused bits are zero."
pub unused_bits_theorem : (core : List ℕ) (room : ℕ) (slice lengths : List ℕ) (m : ℕ) → run_packets core room slice lengths ≡ ok m
    → (m < 2 ^ 64) × ((i : ℕ) → length lengths ≤ i → bit_at i m ≡ false)
unused_bits_theorem core room slice lengths m e = let r = ran_as core room slice lengths m e in (ran_small r, ran_unused r)

-- "each packed with field 0 in the lowest bit of its first byte": field f is bit f % 8 of byte f / 8
pub packed_theorem : (bytes : List ℕ) (f : ℕ) → packet_of bytes f ≡ bit_at (f % 8) (get_or bytes (f / 8) 0)
packed_theorem = bit_of_bytes

-- "Packets lie end to end in one slice": packet i begins behind those before it, and is cut where the slice ends
pub packet_lies_theorem : (i : ℕ) (lengths slice : List ℕ) → i < length lengths
    → get_or (packet_bytes lengths slice) i [] ≡ take (get_or lengths i 0) (drop (total (take i lengths)) slice)
packet_lies_theorem = packet_lies

-- "users run each through a core": a packet by itself has the bit that it has among the others
pub packet_alone_theorem : (core : List ℕ) (room : ℕ) (slice lengths : List ℕ) (m : ℕ) → run_packets core room slice lengths ≡ ok m
    → (i : ℕ) → i < length lengths
    → let p : List ℕ = get_or (packet_bytes lengths slice) i [] in run_packets core room p (length p ∷ []) ≡ ok (bit (bit_at i m))
packet_alone_theorem core room slice lengths m e = ran_alone (ran_as core room slice lengths m e)

-- by which numbers running is refused: those of reading, 48, 49, 50 (packets/specs/Claims.antt: PacketsNumber). Which of them it is, `demand-1` says
pub packets_numbers_theorem : (core : List ℕ) (room : ℕ) (slice lengths : List ℕ) (r p : ℕ) → run_packets core room slice lengths ≡ refuse r p → PacketsNumber r
packets_numbers_theorem core room slice lengths r p e =
    packets_declined_numbers core room slice lengths r p (((packets_decided core room slice lengths).causes r p).1 e)

-- the bytes of an operator of kind k on the tests of fields 0 and 1
abbrev pub both : ℕ → List ℕ
both k = 1 ∷ k ∷ 33 ∷ 6 ∷ 1 ∷ 37 ∷ 6 ∷ 1 ∷ 0 ∷ 0 ∷ 0 ∷ 1 ∷ []

-- small cores: One on packets without bytes; a test of field 0, of one that is to be false, of field 8 in the second byte; a packet that the slice cuts;
-- bytes behind the last packet; the five operators of tests on all packets of two bits
pub packets_run_theorem : (run_packets (1 ∷ 1 ∷ []) 3 [] (0 ∷ 0 ∷ 0 ∷ []) ≡ ok 7)
    × (run_packets (33 ∷ 6 ∷ 1 ∷ []) 3 (0 ∷ 1 ∷ 2 ∷ 3 ∷ 4 ∷ []) (1 ∷ 1 ∷ 1 ∷ 1 ∷ 1 ∷ []) ≡ ok 10)
    × (run_packets (1 ∷ 6 ∷ []) 3 (0 ∷ 1 ∷ 2 ∷ 3 ∷ 4 ∷ []) (1 ∷ 1 ∷ 1 ∷ 1 ∷ 1 ∷ []) ≡ ok 21)
    × (run_packets (37 ∷ 6 ∷ 8 ∷ 0 ∷ 0 ∷ 0 ∷ 1 ∷ []) 3 (128 ∷ 255 ∷ 127 ∷ 1 ∷ []) (2 ∷ 2 ∷ []) ≡ ok 3)
    × (run_packets (33 ∷ 6 ∷ 1 ∷ []) 3 (0 ∷ 1 ∷ 1 ∷ []) (2 ∷ 4294967295 ∷ []) ≡ ok 2)
    × (run_packets (33 ∷ 6 ∷ 1 ∷ []) 3 (1 ∷ 1 ∷ 1 ∷ []) (1 ∷ []) ≡ ok 1)
    × (run_packets (both 7) 9 (0 ∷ 1 ∷ 2 ∷ 3 ∷ []) (1 ∷ 1 ∷ 1 ∷ 1 ∷ []) ≡ ok 14)
    × (run_packets (both 8) 9 (0 ∷ 1 ∷ 2 ∷ 3 ∷ []) (1 ∷ 1 ∷ 1 ∷ 1 ∷ []) ≡ ok 8)
    × (run_packets (both 9) 9 (0 ∷ 1 ∷ 2 ∷ 3 ∷ []) (1 ∷ 1 ∷ 1 ∷ 1 ∷ []) ≡ ok 6)
    × (run_packets (both 10) 9 (0 ∷ 1 ∷ 2 ∷ 3 ∷ []) (1 ∷ 1 ∷ 1 ∷ 1 ∷ []) ≡ ok 2)
    × (run_packets (both 11) 9 (0 ∷ 1 ∷ 2 ∷ 3 ∷ []) (1 ∷ 1 ∷ 1 ∷ 1 ∷ []) ≡ ok 8)
packets_run_theorem = (refl, refl, refl, refl, refl, refl, refl, refl, refl, refl, refl)

-- each refusal of its own by a small call, most with the next one's cause as well: 1, 41 and 10 of the core; 48; 49 for none and for 65; 50 for an empty
-- packet, for one behind the slice's end, where sums pass 32 bits, and for one whose last byte would have to have a ninth bit
pub packets_refusals_theorem : (run_packets [] 0 [] [] ≡ refuse 1 0)
    × (run_packets (1 ∷ 7 ∷ 1 ∷ 2 ∷ 1 ∷ 16 ∷ []) 0 [] [] ≡ refuse 41 2)
    × (run_packets (1 ∷ 2 ∷ []) 2 [] [] ≡ refuse 10 0)
    × (run_packets (1 ∷ 2 ∷ []) 3 [] [] ≡ refuse 48 0)
    × (run_packets (33 ∷ 5 ∷ 1 ∷ []) 3 [] (replicate 65 0) ≡ refuse 48 0)
    × (run_packets (33 ∷ 6 ∷ 1 ∷ []) 3 [] [] ≡ refuse 49 0)
    × (run_packets (33 ∷ 6 ∷ 1 ∷ []) 3 [] (replicate 65 0) ≡ refuse 49 0)
    × (run_packets (33 ∷ 6 ∷ 1 ∷ []) 3 (0 ∷ 1 ∷ 2 ∷ []) (1 ∷ 0 ∷ 1 ∷ 0 ∷ []) ≡ refuse 50 1)
    × (run_packets (33 ∷ 6 ∷ 1 ∷ []) 3 (0 ∷ 1 ∷ 2 ∷ []) (2 ∷ 2 ∷ 2 ∷ []) ≡ refuse 50 2)
    × (run_packets (33 ∷ 6 ∷ 1 ∷ []) 3 (0 ∷ 1 ∷ 2 ∷ []) (4294967295 ∷ 1 ∷ []) ≡ refuse 50 1)
    × (run_packets (37 ∷ 6 ∷ 8 ∷ 0 ∷ 0 ∷ 0 ∷ 1 ∷ []) 3 (128 ∷ 255 ∷ 127 ∷ []) (2 ∷ 2 ∷ []) ≡ refuse 50 1)
packets_refusals_theorem = (refl, refl, refl, refl, refl, refl, refl, refl, refl, refl, refl)
