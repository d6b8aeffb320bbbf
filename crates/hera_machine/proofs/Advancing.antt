-- Steps of a machine, seen from outside.
use Rattle.std.proofs.Common.{◌≡◌, ◌≤◌, ℕ, List, length, ap, ◌∙◌, subst, arith}
use Rattle.std.specs.Prelude.{Result, IfOk}
use Rattle.std.proofs.lemmas.Result.{IfOk-weaker}
use Rattle.std.specs.declared.alloc.AllocError.{AllocError}
use Rattle.hera_meaning.specs.declared.schemas.RelDecl.{RelDecl}
use Rattle.hera_meaning.specs.Deltas.{State}
use Rattle.hera_meaning.specs.Hosts.{Hosts}
use Rattle.hera_code.specs.declared.instrs.Code.{Code}
use Rattle.hera_code.specs.Machine.{Machine, Step, code_step}
use Rattle.hera_machine.specs.declared.events.Event.{Event}
use Rattle.hera_machine.specs.declared.events.Event.TheVariants.{Quiet, Out, Commit, Ended}
use Rattle.hera_steps.specs.Descends.{left}
use Rattle.hera_machine.specs.Standing.{Standing, machine_over, event_over, IsNearer, GoesQuietly, Tells, IsLess}

-- quiet instructions, then the place made for one more operand, then a step
module _ (r : Result Event AllocError) (old gone mid new : Standing) (code : gone.code ≡ old.code) (same_code : mid.code ≡ gone.code) where
  pub advanced : (hosts : Hosts) (s : State) → GoesQuietly old.code old.relations hosts s (machine_over s old) (machine_over s gone)
      → ((t : State) → machine_over t mid ≡ machine_over t gone) → gone.relations ≡ old.relations → mid.relations ≡ gone.relations
      → IfOk r (λ e. event_over s e new ≡ code_step mid.code mid.relations hosts s (machine_over s mid)) → IfOk r (λ e. Tells old.code old.relations hosts s e old new)
  advanced hosts s quietly over rels same_rels h =
      IfOk-weaker r _ _ (λ e told. (machine_over s gone, quietly, told))
      (subst (λ (m : Machine). IfOk r (λ e. event_over s e new ≡ code_step old.code old.relations hosts s m)) (over s)
      (subst (λ (rs : List RelDecl). IfOk r (λ e. event_over s e new ≡ code_step old.code rs hosts s (machine_over s mid))) (same_rels ∙ rels)
      (subst (λ (k : Code). IfOk r (λ e. event_over s e new ≡ code_step k mid.relations hosts s (machine_over s mid))) (same_code ∙ code) h)))

  less_by : (l : ℕ) (a b c : Machine) (e : Event) → left l b ≤ left l a → IsNearer l b c e → IsLess l a c e
  less_by l a b c Quiet fewer near = omega (arith, fewer, near.less_left)
  less_by l a b c (Out line) fewer near = omega (arith, fewer, near.less_left)
  less_by l a b c Commit fewer near = omega (arith, fewer, near.less_left)
  less_by l a b c (Ended end) fewer near = tt

  pub advanced_less : left (length old.code.instrs) gone.state ≤ left (length old.code.instrs) old.state → mid.state ≡ gone.state
      → IfOk r (IsNearer (length mid.code.instrs) mid.state new.state) → IfOk r (IsLess (length old.code.instrs) old.state new.state)
  advanced_less fewer state h =
      IfOk-weaker r _ _ (λ e near. less_by (length old.code.instrs) old.state gone.state new.state e fewer near)
      (subst (λ (m : Machine). IfOk r (IsNearer (length old.code.instrs) m new.state)) state
      (subst (λ (k : Code). IfOk r (IsNearer (length k.instrs) mid.state new.state)) (same_code ∙ code) h))

-- a step of the machine that this is, over the state that it is
pub stepped : (hosts : Hosts) (r s : State) (m old : Standing) (t : State → Step) → m ≡ old → r ≡ s → t r ≡ code_step m.code m.relations hosts r (machine_over r m) → t s ≡ code_step old.code old.relations hosts s (machine_over s old)
stepped hosts r s m old t same over h =
    subst (λ (z : State). t z ≡ code_step old.code old.relations hosts z (machine_over z old)) over
    (h ∙ ap (λ (x : Standing). code_step x.code x.relations hosts r (machine_over r x)) same)
