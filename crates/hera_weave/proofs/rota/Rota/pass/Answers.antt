use Rattle.std.proofs.Common.{◌≡◌, ◌%◌, ℕ, cond, remove, length, ap, ◌∙◌, arith}
use Rattle.hera_sessions.specs.Turns.{next_number}
use Rattle.hera_weave.specs.Rotas.{Turn}
use Rattle.hera_weave.proofs.Turning.{due_step}
use Rattle.hera_weave.proofs.rota.Rota.pass.Goals as goal

pub returns-clause-due : goal.returns-clause-due
returns-clause-due c = λ tasks s hosts schedule due told.
    let r : Turn = c.args.self.now in
    let inside : Turn = record { order = c.self.inside.order; number = c.self.inside.number; opens = c.self.inside.opens.items } in
    let is : inside ≡ r = c.self.view_is in
    let count : c.len-count.result ≡ length c.self.inside.opens.items = omega (arith, c.len-count.ensures, c.self.inside.opens.ok.0) in
    let v : Turn = record { order = c.self.inside.order; number = c.next_number-self-inside.result; opens = c.without.new.opens.items } in
    due_step tasks s hosts schedule c.args.session c.args.closes r v due c.requires.next told
    (ap (λ (t : Turn). t.order) is)
    (c.next_number-self-inside.ensures ∙ ap (next_number c.self.inside.order c.self.inside.number) count ∙ ap (λ (t : Turn). next_number t.order t.number (length t.opens)) is)
    (c.without.ensures ∙ ap (λ (n : ℕ). cond c.args.closes (remove c.self.inside.opens.items (c.self.inside.number % n)) c.self.inside.opens.items) count
    ∙ ap (λ (t : Turn). cond c.args.closes (remove t.opens (t.number % length t.opens)) t.opens) is)
