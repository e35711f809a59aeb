-- From an operation's answer to a host's, where the answer is bytes.
use mathlib.Core.Path.{◌≡◌, ap, ◌∙◌}
use mathlib.Core.List.{List}
use Prim.Native.Nat.{ℕ}
use lib.ListN.{length}
use Rattle.expr.specs.Answers.{Answer, ok, refuse, map_answer, buffer_after}
use Rattle.netkat.specs.Entry.{hosted, Hosts}
use Rattle.netkat.specs.declared.Answer.{Answer as HostAnswer}

module _ {out out' : List ℕ} {r : HostAnswer} where
  -- bytes and a number
  pub hosts_both : (x : Answer (List ℕ × ℕ)) {y : Answer (ℕ × ℕ)} → r ≡ hosted y → y ≡ map_answer (λ p. (length p.0, p.1)) x
      → out' ≡ buffer_after (map_answer (λ p. p.0) x) out → Hosts x out out' r
  hosts_both x e f b = record { answer = e ∙ ap hosted f; buffer = b }

  -- bytes alone
  pub hosts_bytes : (x : Answer (List ℕ)) {y : Answer ℕ} → r ≡ hosted (map_answer (λ n. (n, 0)) y) → y ≡ map_answer (λ bs. length bs) x → out' ≡ buffer_after x out
      → Hosts (map_answer (λ bs. (bs, 0)) x) out out' r
  hosts_bytes (ok bs) e f b = record { answer = e ∙ ap (λ z. hosted (map_answer (λ n. (n, 0)) z)) f; buffer = b }
  hosts_bytes (refuse n at) e f b = record { answer = e ∙ ap (λ z. hosted (map_answer (λ n. (n, 0)) z)) f; buffer = b }
