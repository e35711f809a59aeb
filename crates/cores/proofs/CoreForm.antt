-- Reading core bytes accepts exactly the writings of the cores within the limit.
use mathlib.Core.Path.{◌≡◌, refl, sym, ap, subst, ◌∙◌}
use mathlib.Core.Logic.{◌↔◌}
use mathlib.Core.Bool.{Bool, true, false, not, cond, ◌&&◌}
use mathlib.Core.List.{List, [], ◌∷◌, ◌++◌, append_assoc, append-nil, map}
use Prim.Native.Nat.{ℕ, zero, suc, ◌+◌, ◌*◌, ◌%◌, ◌≤◌, ◌<◌}
use native.Mathlib.Nat.{zero-add}
use native.Mathlib.Decide.{ℕ_discrete}
use native.Mathlib.Omega.{arith}
use borrow.Author.Tests.{ne_eqb, le-leb, lt-leb}
use lib.Dec.{leb}
use lib.ListN.{length, drop, get_or, get_or-append, get_or-map}
use Rattle.literals.specs.Bits.{Bytes, bit_at}
use Rattle.literals.specs.Reading.{Read, got, fault, write_literal}
use Rattle.literals.proofs.Logic.{not_le_of, leb_is}
use Rattle.expr.specs.Answers.{Answer, ok, refuse, and_then, map_answer, need}
use Rattle.expr.specs.Terms.{Zero, One, Top, Dup, End, Assign, Test, Complement, Star, LtlNext, Union, Intersect, Xor, Difference, Sequence, LtlUntil, Core, leaf, one, two, Expr, Plain, Unary, Binary, op1_kind, op2_kind, size}
use Rattle.expr.specs.Records.{Record, read_record, stands, map_of, write_number, write_record}
use Rattle.expr.specs.Form.{Node, node0, node1, node2, nodes, node_of, written, encode_core, atom_record, plain_record, RecordFits, Fits}
use Rattle.expr.specs.Operations.{num_fields}
use Rattle.expr.proofs.RecordForm.{Legal, map_bit, record_codec, record_only}
use Rattle.expr.proofs.TermShape.{own, encode_all, FitAll, fits_is}
use Rattle.expr.proofs.NodeForm.{own_node, Writes, node_writes}
use Rattle.expr.proofs.TermForm.{IfOk}
use Rattle.desugar.specs.CoreRecords.{words}
use Rattle.desugar.specs.CoreBytes.{records_bytes}
use Rattle.desugar.specs.Memory.{Holds}
use Rattle.desugar.proofs.Regions.{size_pos, length_words}
use Rattle.desugar.proofs.RecordBytes.{core_bytes, number_some}
use Rattle.cores.specs.Reading.{max_core, term_kind, read_core_record, CoreNode, atom, unary, binary, core_nodes, core_node, Cores, due_behind, put_over, core_at, read_cores, whole_core, decode_core, into_list, read_core, CoreWithin}

-- ## The kind of a record

no_kind : (m : ℕ) (bs : List ℕ) → bit_at 0 m ≡ false → term_kind (m ∷ bs) ≡ false
no_kind m [] e = refl
no_kind m (k ∷ bs) e = ap (λ b. b && (leb 16 k && leb k 26)) e

-- a record's bytes, with the bytes of its kind apart
abbrev behind_map : Record → List ℕ → List ℕ → List ℕ
behind_map h w rest =
    (w ++ write_number 2 h.name ++ write_number 4 h.start ++ write_number 4 h.end
    ++ write_number 1 h.pattern ++ write_number 1 h.number ++ write_literal h.lit_a ++ write_literal h.lit_b) ++ rest

-- written records of the kinds 16 to 26 are those that 41 refuses
term_kind_of : (h : Record) (rest : List ℕ) → h.kind < 256 → term_kind (write_record h ++ rest) ≡ (leb 16 h.kind && leb h.kind 26)
term_kind_of h rest small = go (ℕ_discrete h.kind 0)
  where
    go : Dec (h.kind ≡ 0) → term_kind (write_record h ++ rest) ≡ (leb 16 h.kind && leb h.kind 26)
    go (yes d) = no_kind (map_of h) (behind_map h (write_number 1 h.kind) rest) (map_bit 0 h ∙ ap stands d) ∙ ap (λ k. leb 16 k && leb k 26) (sym d)
    go (no d) =
        let low : h.kind % 256 ≡ h.kind = omega arith in
        ap (λ (w : List ℕ). term_kind (map_of h ∷ behind_map h w rest)) (number_some 1 h.kind d)
        ∙ ap (λ b. b && (leb 16 (h.kind % 256) && leb (h.kind % 256) 26)) (map_bit 0 h ∙ ap not (ne_eqb h.kind 0 d))
        ∙ ap (λ k. leb 16 k && leb k 26) low

pub core_forward : (h : Record) (rest : List ℕ) → Legal h → h.kind ≤ 15 → read_core_record (write_record h ++ rest) ≡ got h rest
core_forward h rest l s =
    ap (λ b. cond b (fault 41) (read_record (write_record h ++ rest)))
    (term_kind_of h rest (omega arith) ∙ ap (λ b. b && leb h.kind 26) (lt-leb 16 h.kind (omega arith)))
    ∙ record_codec.forward h rest l

-- what reading a core's record leaves of the bytes bs
pub record Wrote (bs : List ℕ) (h : Record) (rest : List ℕ) : Type 0 where
  pub legal : Legal h
  pub small : h.kind ≤ 15
  pub bytes : bs ≡ write_record h ++ rest
  pub left : Bytes rest

pub core_only : (bs : List ℕ) (h : Record) (rest : List ℕ) → Bytes bs → read_core_record bs ≡ got h rest → Wrote bs h rest
core_only bs h rest b e = go (term_kind bs) refl e
  where
    go : (t : Bool) → term_kind bs ≡ t → cond t (fault 41) (read_record bs) ≡ got h rest → Wrote bs h rest
    go true k r = let z : ◌≡◌ {A = ℕ} 0 1 = cc in absurd (omega arith)
    go false k r =
        let w = record_only bs h rest b r in
        let top : h.kind ≤ 26 = w.good.kind in
        let both : (leb 16 h.kind && leb h.kind 26) ≡ false = sym (term_kind_of h rest (omega arith)) ∙ ap term_kind (sym w.bytes) ∙ k in
        let low : leb 16 h.kind ≡ false = alone (leb 16 h.kind) (leb h.kind 26) (le-leb h.kind 26 top) both in
        record { legal = w.good; small = omega (arith, not_le_of 16 h.kind low); bytes = w.bytes; left = w.left }
      where
        alone : (x y : Bool) → y ≡ true → (x && y) ≡ false → x ≡ false
        alone true y p q = sym p ∙ q
        alone false y p q = refl

-- ## Nodes

abbrev pub written_node : CoreNode → Node
written_node (atom a) = node0 (Plain a)
written_node (unary o) = node1 (Unary o)
written_node (binary o) = node2 (Binary o)

-- the node of a record is that of a term's, where the kind is a core's
pub node_is : (h : Record) → h.kind ≤ 15 → node_of h ≡ written_node (core_node h)
node_is h l =
    get_or-append (map written_node (core_nodes h)) (drop 16 (nodes h)) (node0 (Plain Zero)) h.kind (omega arith)
    ∙ get_or-map written_node (core_nodes h) h.kind (atom Zero)

-- and it writes that record
pub node_wrote : {bs : List ℕ} {h : Record} {rest : List ℕ} → Wrote bs h rest → Writes h (written_node (core_node h))
node_wrote {h = h} w = subst (Writes h) (node_is h w.small) (node_writes h w.legal)

abbrev pub top_node : Core → CoreNode
top_node (leaf a) = atom a
top_node (one o c) = unary o
top_node (two o a b) = binary o

pub core_node_fact : (c : Core) → core_node (own (written c)) ≡ top_node c
core_node_fact (leaf Zero) = refl
core_node_fact (leaf One) = refl
core_node_fact (leaf Top) = refl
core_node_fact (leaf Dup) = refl
core_node_fact (leaf End) = refl
core_node_fact (leaf (Assign f true)) = refl
core_node_fact (leaf (Assign f false)) = refl
core_node_fact (leaf (Test f true)) = refl
core_node_fact (leaf (Test f false)) = refl
core_node_fact (one Complement c) = refl
core_node_fact (one Star c) = refl
core_node_fact (one LtlNext c) = refl
core_node_fact (two Union a b) = refl
core_node_fact (two Intersect a b) = refl
core_node_fact (two Xor a b) = refl
core_node_fact (two Difference a b) = refl
core_node_fact (two Sequence a b) = refl
core_node_fact (two LtlUntil a b) = refl

pub own_small : (c : Core) → (own (written c)).kind ≤ 15
own_small (leaf Zero) = omega arith
own_small (leaf One) = omega arith
own_small (leaf Top) = omega arith
own_small (leaf Dup) = omega arith
own_small (leaf End) = omega arith
own_small (leaf (Assign f v)) = omega arith
own_small (leaf (Test f v)) = omega arith
own_small (one Complement c) = omega arith
own_small (one Star c) = omega arith
own_small (one LtlNext c) = omega arith
own_small (two Union a b) = omega arith
own_small (two Intersect a b) = omega arith
own_small (two Xor a b) = omega arith
own_small (two Difference a b) = omega arith
own_small (two Sequence a b) = omega arith
own_small (two LtlUntil a b) = omega arith

-- ## Several cores

-- as terms, and their records
abbrev pub exprs : (n : ℕ) → Cores n → List Expr
exprs zero cs = []
exprs (suc n) cs = written cs.0 ∷ exprs n cs.1

abbrev pub sizes : (n : ℕ) → Cores n → ℕ
sizes zero cs = 0
sizes (suc n) cs = size cs.0 + sizes n cs.1

-- the operands of the first core, and the others
abbrev below : (c : Core) (n : ℕ) → Cores n → Cores (due_behind (top_node c) n)
below (leaf a) n cs = cs
below (one o c) n cs = (c, cs)
below (two o a b) n cs = (a, (b, cs))

put_below : (c : Core) (n : ℕ) (cs : Cores n) → put_over (top_node c) n (below c n cs) ≡ (c, cs)
put_below (leaf a) n cs = refl
put_below (one o c) n cs = refl
put_below (two o a b) n cs = refl

bytes_below : (c : Core) (n : ℕ) (cs : Cores n)
    → encode_all (exprs (suc n) (c, cs)) ≡ write_record (own (written c)) ++ encode_all (exprs (due_behind (top_node c) n) (below c n cs))
bytes_below (leaf a) n cs = refl
bytes_below (one o c) n cs = append_assoc (write_record (plain_record (op1_kind o))) (encode_core c) (encode_all (exprs n cs))
bytes_below (two o a b) n cs =
    append_assoc (write_record (plain_record (op2_kind o)) ++ encode_core a) (encode_core b) (encode_all (exprs n cs))
    ∙ append_assoc (write_record (plain_record (op2_kind o))) (encode_core a) (encode_core b ++ encode_all (exprs n cs))

fits_below : (c : Core) (n : ℕ) (cs : Cores n) → FitAll (exprs (suc n) (c, cs)) → FitAll (exprs (due_behind (top_node c) n) (below c n cs))
fits_below (leaf a) n cs f = f.1
fits_below (one o c) n cs f = f
fits_below (two o a b) n cs f = (f.0.0, (f.0.1, f.1))

sizes_below : (c : Core) (n : ℕ) (cs : Cores n) → size c + sizes n cs ≡ suc (sizes (due_behind (top_node c) n) (below c n cs))
sizes_below (leaf a) n cs = omega arith
sizes_below (one o c) n cs = omega arith
sizes_below (two o a b) n cs = omega arith

-- ## What was written is read

-- the first core's own record, and then its operands and the others
record_read : (left n : ℕ) (cs : Cores (suc n)) (at : ℕ) (rest : List ℕ) → FitAll (exprs (suc n) cs)
    → read_cores (suc left) (suc n) at (encode_all (exprs (suc n) cs) ++ rest)
    ≡ map_answer {B = Cores (suc n) × List ℕ} (λ r. (put_over (top_node cs.0) n r.0, r.1))
    (read_cores left (due_behind (top_node cs.0) n) (at + 1) (encode_all (exprs (due_behind (top_node cs.0) n) (below cs.0 n cs.1)) ++ rest))
record_read left n cs at rest f =
    let c : Core = cs.0 in
    let h : Record = own (written c) in
    let more : List ℕ = encode_all (exprs (due_behind (top_node c) n) (below c n cs.1)) ++ rest in
    let bytes : encode_all (exprs (suc n) cs) ++ rest ≡ write_record h ++ more =
    ap (λ (bs : List ℕ). bs ++ rest) (bytes_below c n cs.1) ∙ append_assoc (write_record h) _ rest in
    let read : read_core_record (encode_all (exprs (suc n) cs) ++ rest) ≡ got h more =
    ap read_core_record bytes ∙ core_forward h more ((own_node (written c)).0 ((fits_is (written c)).0 f.0).0) (own_small c) in
    ap (core_at (read_cores left) n at) read
    ∙ ap (λ m. map_answer (λ (r : Cores (due_behind m n) × List ℕ). (put_over m n r.0, r.1)) (read_cores left (due_behind m n) (at + 1) more)) (core_node_fact c)

cores_read : (left n : ℕ) (cs : Cores n) (at : ℕ) (rest : List ℕ) → FitAll (exprs n cs) → sizes n cs ≤ left
    → read_cores left n at (encode_all (exprs n cs) ++ rest) ≡ ok (cs, rest)
cores_read zero zero cs at rest f l = refl
cores_read zero (suc n) cs at rest f l = absurd (omega (arith, size_pos cs.0))
cores_read (suc left) zero cs at rest f l = refl
cores_read (suc left) (suc n) cs at rest f l =
    let c : Core = cs.0 in
    record_read left n cs at rest f
    ∙ ap (map_answer (λ (r : Cores (due_behind (top_node c) n) × List ℕ). (put_over (top_node c) n r.0, r.1)))
    (cores_read left (due_behind (top_node c) n) (below c n cs.1) (at + 1) rest (fits_below c n cs.1 f) (omega (arith, sizes_below c n cs.1)))
    ∙ ap (λ (x : Cores (suc n)). ok (x, rest)) (put_below c n cs.1)

-- more records than there may be
cores_many : (left n : ℕ) (cs : Cores n) (at : ℕ) (rest : List ℕ) → FitAll (exprs n cs) → left < sizes n cs
    → read_cores left n at (encode_all (exprs n cs) ++ rest) ≡ refuse 42 (at + left)
cores_many zero zero cs at rest f l = absurd (omega arith)
cores_many zero (suc n) cs at rest f l = let e : at ≡ at + 0 = omega arith in ap (refuse 42) e
cores_many (suc left) zero cs at rest f l = absurd (omega arith)
cores_many (suc left) (suc n) cs at rest f l =
    let c : Core = cs.0 in
    let e : at + 1 + left ≡ at + suc left = omega arith in
    record_read left n cs at rest f
    ∙ ap (map_answer (λ (r : Cores (due_behind (top_node c) n) × List ℕ). (put_over (top_node c) n r.0, r.1)))
    (cores_many left (due_behind (top_node c) n) (below c n cs.1) (at + 1) rest (fits_below c n cs.1 f) (omega (arith, sizes_below c n cs.1)))
    ∙ ap (refuse 42) e

-- ## What is read was written

pub record Only (left n : ℕ) (bs : List ℕ) (r : Cores n × List ℕ) : Type 0 where
  pub bytes : bs ≡ encode_all (exprs n r.0) ++ r.1
  pub fits : FitAll (exprs n r.0)
  pub few : sizes n r.0 ≤ left
  pub rest : Bytes r.1

ok_map : {A B : Type 0} (P : A → Type 0) (Q : B → Type 0) (f : A → B) (x : Answer A) → ((a : A) → P a → Q (f a)) → IfOk P x → IfOk Q (map_answer f x)
ok_map P Q f (ok a) k h = k a h
ok_map P Q f (refuse r p) k h = tt

module _ (left n : ℕ) (bs cs : List ℕ) (h : Record) (w : Wrote bs h cs) where
  -- the bytes of the node, in front of those of its operands and the others
  over : (e : Record) (x y z : List ℕ) → e ≡ h → cs ≡ y ++ z → x ≡ write_record e ++ y → bs ≡ x ++ z
  over e x y z p q s =
      w.bytes ∙ ap (λ (l : List ℕ). write_record h ++ l) q ∙ sym (append_assoc (write_record h) y z)
      ∙ ap (λ (l : List ℕ). l ++ z) (ap (λ (r : Record). write_record r ++ y) (sym p) ∙ sym s)

  put_only : (m : CoreNode) → Writes h (written_node m) → (r : Cores (due_behind m n) × List ℕ) → Only left (due_behind m n) cs r
      → Only (suc left) (suc n) bs (put_over m n r.0, r.1)
  put_only (atom a) v r o = record {
    bytes = over (atom_record a) _ _ r.1 v.0 o.bytes (bytes_below (leaf a) n r.0);
    fits = (subst RecordFits (sym v.0) w.legal.fits, o.fits);
    few = omega (arith, o.few);
    rest = o.rest;
  }
  put_only (unary p) v r o = record {
    bytes = over (plain_record (op1_kind p)) _ _ r.1 (v (written r.0.0)).0 o.bytes (bytes_below (one p r.0.0) n r.0.1);
    fits = o.fits;
    few = omega (arith, o.few);
    rest = o.rest;
  }
  put_only (binary p) v r o = record {
    bytes = over (plain_record (op2_kind p)) _ _ r.1 (v (written r.0.0) (written r.0.1.0)).0 o.bytes (bytes_below (two p r.0.0 r.0.1.0) n r.0.1.1);
    fits = ((o.fits.0, o.fits.1.0), o.fits.1.1);
    few = omega (arith, o.few);
    rest = o.rest;
  }

pub cores_back : (left n at : ℕ) (bs : List ℕ) → Bytes bs → IfOk (Only left n bs) (read_cores left n at bs)
cores_back zero zero at bs b = record { bytes = refl; fits = tt; few = omega arith; rest = b }
cores_back zero (suc n) at bs b = tt
cores_back (suc left) zero at bs b = record { bytes = refl; fits = tt; few = omega arith; rest = b }
cores_back (suc left) (suc n) at bs b = go (λ m p cs k. cores_back left m p cs k) (read_core_record bs) refl
  where
    go : ((m p : ℕ) (cs : List ℕ) → Bytes cs → IfOk (Only left m cs) (read_cores left m p cs)) → (x : Read Record) → read_core_record bs ≡ x
        → IfOk (Only (suc left) (suc n) bs) (core_at (read_cores left) n at x)
    go back (fault r) e = tt
    go back (got h cs) e =
        let w = core_only bs h cs b e in
        ok_map (Only left (due_behind (core_node h) n) cs) (Only (suc left) (suc n) bs) (λ r. (put_over (core_node h) n r.0, r.1))
        (read_cores left (due_behind (core_node h) n) (at + 1) cs)
        (λ r o. put_only left n bs cs h w (core_node h) (node_wrote w) r o)
        (back (due_behind (core_node h) n) (at + 1) cs w.left)

-- ## The whole

-- a core's bytes, as those of a list of one
alone : (c : Core) → encode_core c ≡ encode_all (exprs 1 (c, tt)) ++ []
alone c = sym (append-nil (encode_core c ++ []) ∙ append-nil (encode_core c))

abbrev read_whole : Answer (Cores 1 × List ℕ) → Answer Core
read_whole x = and_then x (λ r. whole_core r.0.0 r.1)

decode_core_fact : (c : Core) → CoreWithin c → decode_core (encode_core c) ≡ ok c
decode_core_fact c w = ap read_whole (ap (read_cores max_core 1 0) (alone c) ∙ cores_read max_core 1 (c, tt) 0 [] (w.fits, tt) (omega (arith, w.few)))

pub decode_many : (c : Core) → Fits (written c) → max_core < size c → decode_core (encode_core c) ≡ refuse 42 max_core
decode_many c f l = ap read_whole (ap (read_cores max_core 1 0) (alone c) ∙ cores_many max_core 1 (c, tt) 0 [] (f, tt) (omega arith))

whole_only : (bs : List ℕ) (x : Answer (Cores 1 × List ℕ)) → IfOk (Only max_core 1 bs) x → (c : Core) → and_then x (λ r. whole_core r.0.0 r.1) ≡ ok c
    → CoreWithin c × (bs ≡ encode_core c)
whole_only bs (refuse r p) o c e = let z : ◌≡◌ {A = ℕ} 0 1 = cc in absurd (omega arith)
whole_only bs (ok r) o c e = go r.1 refl e
  where
    go : (rest : List ℕ) → r.1 ≡ rest → whole_core r.0.0 rest ≡ ok c → CoreWithin c × (bs ≡ encode_core c)
    go [] k d =
        let same : r.0.0 ≡ c = cc in (
          record { few = subst (λ x. size x ≤ max_core) same (omega (arith, o.few)); fits = subst (λ x. Fits (written x)) same o.fits.0 },
          o.bytes ∙ ap (λ (l : List ℕ). (encode_core r.0.0 ++ []) ++ l) k ∙ append-nil (encode_core r.0.0 ++ []) ∙ append-nil (encode_core r.0.0) ∙ ap encode_core same,
        )
    go (y ∷ ys) k d = let z : ◌≡◌ {A = ℕ} 0 1 = cc in absurd (omega arith)

pub decode_only : (bs : List ℕ) (c : Core) → Bytes bs → decode_core bs ≡ ok c → CoreWithin c × (bs ≡ encode_core c)
decode_only bs c b e = whole_only bs (read_cores max_core 1 0 bs) (cores_back max_core 1 0 bs b) c e

-- core bytes are read exactly where they are the writing of a core within the limit
pub core_exact : (bs : List ℕ) (c : Core) → Bytes bs → (decode_core bs ≡ ok c) ↔ (CoreWithin c × (bs ≡ encode_core c))
core_exact bs c b = (decode_only bs c b, (λ h. ap decode_core h.1 ∙ decode_core_fact c h.0))

-- ## "reads back to the tree it came from", "two core byte strings that read to equal trees are equal"

-- with 25 or 10 where they apply
pub read_back : (c : Core) → CoreWithin c → (room : ℕ) → read_core (encode_core c) room ≡ into_list c room
read_back c w room = ap (λ (x : Answer Core). and_then x (λ d. into_list d room)) (decode_core_fact c w)

-- where a core and its field count were read
pub record ReadAs (bs : List ℕ) (room : ℕ) (r : Core × ℕ) : Type 0 where
  pub is : decode_core bs ≡ ok r.0
  pub fields : num_fields (written r.0) 0 ≡ ok r.1
  pub fits : 3 * size r.0 ≤ room

into_read : (bs : List ℕ) (c : Core) (room : ℕ) (r : Core × ℕ) → decode_core bs ≡ ok c → into_list c room ≡ ok r → ReadAs bs room r
into_read bs c room r d e = counted (num_fields (written c) 0) refl e
  where
    fits : (n : ℕ) → num_fields (written c) 0 ≡ ok n → (b : Bool) → leb (3 * size c) room ≡ b → and_then (need b 10 0) (λ _. ok (c, n)) ≡ ok r → ReadAs bs room r
    fits n f true l j =
        let same : ◌≡◌ {A = Core × ℕ} (c, n) r = cc in
        subst (ReadAs bs room) same (record { is = d; fields = f; fits = (leb_is (3 * size c) room).0 l })
    fits n f false l j = let z : ◌≡◌ {A = ℕ} 0 1 = cc in absurd (omega arith)

    counted : (x : Answer ℕ) → num_fields (written c) 0 ≡ x → and_then x (λ n. and_then (need (leb (3 * size c) room) 10 0) λ _. ok (c, n)) ≡ ok r → ReadAs bs room r
    counted (ok n) f j = fits n f (leb (3 * size c) room) refl j
    counted (refuse q p) f j = let z : ◌≡◌ {A = ℕ} 0 1 = cc in absurd (omega arith)

pub read_as : (bs : List ℕ) (room : ℕ) (r : Core × ℕ) → read_core bs room ≡ ok r → ReadAs bs room r
read_as bs room r e = go (decode_core bs) refl e
  where
    go : (x : Answer Core) → decode_core bs ≡ x → and_then x (λ c. into_list c room) ≡ ok r → ReadAs bs room r
    go (ok c) d k = into_read bs c room r d k
    go (refuse q p) d k = let z : ◌≡◌ {A = ℕ} 0 1 = cc in absurd (omega arith)

read_only : (bs : List ℕ) (room : ℕ) (r : Core × ℕ) → Bytes bs → read_core bs room ≡ ok r → bs ≡ encode_core r.0
read_only bs room r b e = (decode_only bs r.0 b (read_as bs room r e).is).1

-- a core's bytes are told by its records
bytes_of_words : (c d : Core) → words c ≡ words d → encode_core c ≡ encode_core d
bytes_of_words c d e =
    let same : size c ≡ size d = omega (arith, ap length e, length_words c, length_words d) in
    sym (core_bytes c (words c) 0 (itself c)) ∙ (λ i. records_bytes (e i) 0 (same i)) ∙ core_bytes d (words d) 0 (itself d)
  where
    itself : (c : Core) → Holds (words c) 0 (words c)
    itself c = record { fits = omega arith; each = λ k _. ap (λ i. get_or (words c) i 0) (zero-add k) }

pub equal_records : (bs cs : List ℕ) (room space : ℕ) (r s : Core × ℕ) → Bytes bs → Bytes cs → read_core bs room ≡ ok r → read_core cs space ≡ ok s
    → words r.0 ≡ words s.0 → bs ≡ cs
equal_records bs cs room space r s b c d e same =
    read_only bs room r b d ∙ bytes_of_words r.0 s.0 same ∙ sym (read_only cs space s c e)
