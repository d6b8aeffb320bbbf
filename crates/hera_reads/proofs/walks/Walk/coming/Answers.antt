use Rattle.std.proofs.Common.{◌∙◌, is_some, sym, ap}
use Rattle.std.specs.Option.{option_copied}
use Rattle.hera_reads.specs.Walking.{Pace, first_of}
use Rattle.hera_reads.proofs.Passing.{behind_first, ahead_first}
use Rattle.hera_reads.proofs.walks.Walk.coming.Goals as goal

pub returns-in-None : goal.returns-in-None
returns-in-None c =
    c.coming-in-None.ensures
    ∙ behind_first c.self.inside.ahead c.self.inside.source (sym c.has_passed.ensures ∙ c.if-has_passed.false) (ap is_some (sym c.coming-2.ensures ∙ ap option_copied c.in-None.is))
    ∙ ap (λ (p : Pace). first_of p.rest) c.self.view_is

pub returns-in-Some : goal.returns-in-Some
returns-in-Some c =
    ap option_copied (sym c.in-Some.is) ∙ c.coming-2.ensures
    ∙ ahead_first c.self.inside.ahead c.self.inside.source (sym c.has_passed.ensures ∙ c.if-has_passed.false) (ap is_some (sym c.coming-2.ensures ∙ ap option_copied c.in-Some.is))
    ∙ ap (λ (p : Pace). first_of p.rest) c.self.view_is
