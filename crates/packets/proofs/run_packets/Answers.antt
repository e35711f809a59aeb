-- `packets::run_packets` meets its contract.
use mathlib.Core.Path.{◌≡◌, ap, subst, ◌∙◌}
use mathlib.Core.List.{List}
use Prim.Native.Nat.{ℕ, ◌≤◌, min}
use native.Mathlib.Omega.{arith}
use lib.ListN.{length, take}
use lib.Seq.{take_all}
use Rattle.refusals.proofs.Exits.{err_is}
use Rattle.refusals.specs.Refusals.{number_of}
use Rattle.refusals.specs.declared.Refused.{Refused}
use Rattle.expr.specs.Answers.{Answer, answered, refuse}
use Rattle.packets.specs.Running.{max_packets, packet_bytes}
use Rattle.std.specs.Prelude.{Some, None}
use Rattle.packets.specs.Results.{ShortFound}
use Rattle.packets.proofs.RunLaws.{ran_refused, read_of, ran_no_test, ran_count, ran_few, ran_short, ran_good}
use Rattle.packets.proofs.run_packets.Goals as goal

pub returns-in_err-read : goal.returns-in_err-read
returns-in_err-read c = ap answered (err_is _ c.from_residual.ensures.1) ∙ ran_refused c.args.core.now (length c.args.list.now) c.args.packets.now c.args.lengths.now c.in_err-read.field-0.0 c.in_err-read.ensures.passed

-- what is answered of a refusal at a place
at_is : {e f : Refused} → e ≡ f → ◌≡◌ {A = Answer ℕ} (refuse (number_of e.refusal) e.place) (refuse (number_of f.refusal) f.place)
at_is h = ap (λ (r : Refused). refuse (number_of r.refusal) r.place) h

pub returns-then-not-read : goal.returns-then-not-read
returns-then-not-read c = at_is c.at.ensures ∙ ran_no_test c.args.core.now (length c.args.list.now) c.args.packets.now c.args.lengths.now (read_of c.args.core.now (length c.args.list.now) c.args.packets.now c.args.lengths.now c.in_ok-read.read c.in_ok-read.ensures.passed) c.if-not-read.true

pub returns-then-count : goal.returns-then-count
returns-then-count c = at_is c.at-then-count.ensures ∙ ran_count c.args.core.now (length c.args.list.now) c.args.packets.now c.args.lengths.now (read_of c.args.core.now (length c.args.list.now) c.args.packets.now c.args.lengths.now c.in_ok-read.read c.in_ok-read.ensures.passed) c.if-not-read.false c.if-count.true

-- at most 64 packets are all that were lent
whole : {few : ℕ} (ns slice : List ℕ) {ps : List (List ℕ)} → few ≡ min (length ns) max_packets → length ns ≤ max_packets → ps ≡ packet_bytes (take few ns) slice → ps ≡ packet_bytes ns slice
whole {few} ns slice e l p = p ∙ ap (λ ms. packet_bytes ms slice) (take_all few ns (omega (arith, l, e)))

pub returns-in-Some : goal.returns-in-Some
returns-in-Some c =
    let read = read_of c.args.core.now (length c.args.list.now) c.args.packets.now c.args.lengths.now c.in_ok-read.read c.in_ok-read.ensures.passed in
    let few = ran_few c.args.core.now (length c.args.list.now) c.args.packets.now c.args.lengths.now read c.if-not-read.false c.if-count.false in
    let all : c.one_pass.new.capture ≡ packet_bytes c.args.lengths.now c.args.packets.now = whole c.args.lengths.now c.args.packets.now c.min-few.ensures few (c.one_pass.ensures.same ∙ c.new-capture.ensures) in
    at_is c.at-in-Some.ensures ∙ ran_short c.args.core.now (length c.args.list.now) c.args.packets.now c.args.lengths.now read c.if-not-read.false c.if-count.false (subst (λ ps. ShortFound c.in_ok-read.read.fields ps (Some c.in-Some.short)) all c.in-Some.ensures)

pub returns-in-None : goal.returns-in-None
returns-in-None c =
    let read = read_of c.args.core.now (length c.args.list.now) c.args.packets.now c.args.lengths.now c.in_ok-read.read c.in_ok-read.ensures.passed in
    let few = ran_few c.args.core.now (length c.args.list.now) c.args.packets.now c.args.lengths.now read c.if-not-read.false c.if-count.false in
    let all : c.new-capture.result ≡ packet_bytes c.args.lengths.now c.args.packets.now = whole c.args.lengths.now c.args.packets.now c.min-few.ensures few c.new-capture.ensures in
    ran_good c.args.core.now (length c.args.list.now) c.args.packets.now c.args.lengths.now read c.if-not-read.false c.if-count.false (subst (λ ps. ShortFound c.in_ok-read.read.fields ps None) (c.one_pass.ensures.same ∙ all) c.in-None.ensures) all
