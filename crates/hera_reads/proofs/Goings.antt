-- What a step of a walk leaves.
use Rattle.std.proofs.Common.{◌≡◌, ◌≤◌, true, List, [], ◌∷◌, Option, None, is_some, refl, sym, ap, ◌∙◌, arith}
use Rattle.std.proofs.lemmas.Option.{none-some}
use Rattle.hera_sets.specs.Rows.{Row}
use Rattle.hera_meaning.specs.Deltas.{State}
use Rattle.when_overlay.specs.declared.layers.Layer.{Layer}
use Rattle.hera_reads.specs.Walking.{Pace, Rest, given, named, to_come, walk_at, first_of, past_row, past_first, gone_on, at_row, IsGiven, settled, rest_reach}

-- ---- past a row that it has

past_at : (s : State) (ls : List Layer) (rest : Rest) (current : Option Row) (gathered : List Row) → is_some (first_of rest) ≡ true →
    walk_at s ls (past_row rest (record { rest = rest; current = current; gathered = gathered })) ≡ gone_on (walk_at s ls (record { rest = rest; current = current; gathered = gathered }))
past_at s ls (given []) current gathered h = cc
past_at s ls (named [] r k) current gathered h = cc
past_at s ls rest current gathered h = refl

pub past_on : (s : State) (ls : List Layer) (w : Pace) → is_some (first_of w.rest) ≡ true → walk_at s ls (past_first w) ≡ gone_on (walk_at s ls w)
past_on s ls w h = past_at s ls w.rest w.current w.gathered h

past_rest_reach : (rest : Rest) (w : Pace) → w.rest ≡ rest → rest_reach (past_row rest w).rest ≤ rest_reach w.rest
past_rest_reach (given []) w e = omega arith
past_rest_reach (named (x ∷ xs) r k) w e = let same = ap rest_reach e in omega (arith, same)
past_rest_reach rest w e = omega arith

pub past_reach : (w : Pace) → rest_reach (past_first w).rest ≤ rest_reach w.rest
past_reach w = past_rest_reach w.rest w refl

-- ---- to the end

pub end_on : (s : State) (ls : List Layer) (w : Pace) → to_come s ls w.current w.rest ≡ [] → walk_at s ls (record { rest = given []; current = None; gathered = w.gathered }) ≡ gone_on (walk_at s ls w)
end_on s ls w e =
    ap (λ rows. record { rows = rows; current = None; gathered = w.gathered }) (sym e)
    ∙ ap (λ rows. at_row rows (walk_at s ls w)) (sym e)

own_none : (s : State) (ls : List Layer) (current : Option Row) (rest : Rest) → IsGiven rest → first_of rest ≡ None → to_come s ls current rest ≡ []
own_none s ls current (given []) g h = refl
own_none s ls current (given (x ∷ xs)) g h = absurd (none-some x (sym h))
own_none s ls current (named ahead r k) g h = absurd g

pub own_end : (s : State) (ls : List Layer) (w : Pace) → IsGiven w.rest → first_of w.rest ≡ None → walk_at s ls (record { rest = given []; current = None; gathered = w.gathered }) ≡ gone_on (walk_at s ls w)
own_end s ls w g h = end_on s ls w (own_none s ls w.current w.rest g h)

-- ---- with its rows

given_same : (s : State) (ls : List Layer) (current : Option Row) (rest : Rest) → IsGiven rest → rest ≡ given (to_come s ls current rest)
given_same s ls current (given rows) g = refl
given_same s ls current (named ahead r k) g = absurd g

pub settled_given : (s : State) (ls : List Layer) (w : Pace) → IsGiven w.rest → w ≡ settled s ls w
settled_given s ls w g = ap (λ (r : Rest). record { rest = r; current = w.current; gathered = w.gathered }) (given_same s ls w.current w.rest g)

pub ruleset goings = (past_on, past_reach, own_end)

pub ruleset settlings = (settled_given)
