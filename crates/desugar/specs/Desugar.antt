-- From a term to its core, and Desugar on bytes (document 01, "Walking rules" and "Desugar").
use mathlib.Core.{Bool.◌&&◌, List.List, List.[], List.◌∷◌}
use Rattle.std.specs.Prelude.{ℕ, ◌+◌, ◌-◌, ◌*◌}
use lib.{Dec.leb}
use Rattle.expr.specs.{Answers.Answer, Answers.ok, Answers.and_then, Answers.need, Terms.Union, Terms.Sequence, Terms.Core, Terms.leaf, Terms.one, Terms.two, Terms.Expr, Terms.Plain, Terms.Unary, Terms.Binary, Terms.TestNegation, Terms.IfThenElse, Terms.Let, Terms.LetBitRange, Terms.Var, Terms.Ranged, Terms.records, Terms.size, Form.decode, Form.encode_core, Operations.into_room}
use Rattle.desugar.specs.{Bindings.Env, Bindings.variable, Bindings.range, Bindings.lookup_variable, Bindings.lookup_alias, Bindings.find_range, Meter.Meter, Meter.spent, Meter.left, Meter.Draws, Meter.◌>>=◌, Meter.lift, Meter.drawing, Meter.drawn, Rules.known_range, Rules.bound_variable, Rules.range_rule, Leaves.use_core, Negation.is_test, Negation.join, Negation.join_draw, Negation.negate}

-- "Children go left to right, then the node's own rules and draw.": a term that begins at a record, under the bindings around it.
-- "desugaring judges 22 and 23 on the core it has made". The draws: "a leaf, its whole core; Var, the copy; a negation, its result; .."
abbrev pub desugar : Env Core → Expr → ℕ → Draws Core
desugar env (Plain a) at = drawing 1 at (leaf a)
desugar env (Unary o e) at = desugar env e (at + 1) >>= λ c. drawing 1 at (one o c)
desugar env (Binary o a b) at =
    desugar env a (at + 1) >>= λ c.
    desugar env b (at + 1 + records a) >>= λ d.
    drawing (join_draw o c d) at (join o c d)
desugar env (TestNegation e) at =
    desugar env e (at + 1) >>= λ c.
    lift (need (is_test c) 22 at) >>= λ _.
    drawing (size (negate c)) at (negate c)
-- "If gives Union(Sequence(c, t), Sequence(not c, e)) with no dropping."
desugar env (IfThenElse c t e) at =
    desugar env c (at + 1) >>= λ c'.
    desugar env t (at + 1 + records c) >>= λ t'.
    desugar env e (at + 1 + records c + records t) >>= λ e'.
    lift (need (is_test c') 23 at) >>= λ _.
    drawing (size (negate c') + 3) at (two Union (two Sequence c' t') (two Sequence (negate c') e'))
-- "a definition is worked out under the bindings around its Let, used or not"
desugar env (Let x d b) at =
    desugar env d (at + 1) >>= λ c.
    desugar (variable x c ∷ env) b (at + 1 + records d)
-- "An alias range is judged only on use."
desugar env (LetBitRange x s e b) at = desugar (range x s e ∷ env) b (at + 1)
desugar env (Var x) at =
    lift (bound_variable (lookup_variable env x) (lookup_alias env x) at) >>= λ c.
    drawing (size c) at c
desugar env (Ranged w u) at =
    lift (known_range (find_range env w) at) >>= λ r.
    lift (range_rule w u r at) >>= λ _.
    drawing (size (use_core u r.0 (r.1 - r.0))) at (use_core u r.0 (r.1 - r.0))

-- "9 allowance outside 1 to 65,535; 10 work memory under 8 × allowance + 8,192 numbers of 32 bits"
abbrev pub max_allowance : ℕ
max_allowance = 65535

abbrev pub work_for : ℕ → ℕ
work_for n = 8 * n + 8192

-- what was drawn of an allowance n
abbrev pub drawn_of : ℕ → Meter → ℕ
drawn_of n (left m) = n - m
drawn_of n (spent ds) = drawn ds

-- "Desugar: 9 ..; 10 ..; form; rules and 24 ..; 26 ..": the core's bytes and the drawn total. n is the allowance, the others lengths
abbrev pub desugar_bytes : (bs : List ℕ) (n work room : ℕ) → Answer (List ℕ × ℕ)
desugar_bytes bs n work room =
    and_then (need (leb 1 n && leb n max_allowance) 9 0) λ _.
    and_then (need (leb (work_for n) work) 10 0) λ _.
    and_then (decode bs) λ e.
    and_then (desugar [] e 0 (left n)) λ r.
    and_then (into_room (encode_core r.0) room) λ out.
    ok (out, drawn_of n r.1)
