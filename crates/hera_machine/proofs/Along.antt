-- What events print, store and count, one list of them behind another.
use Rattle.std.proofs.Common.{◌≡◌, ◌+◌, List, [], ◌∷◌, ◌++◌, refl, sym, ap, ◌∙◌, arith, append_assoc, zero-add}
use Rattle.hera_meaning.specs.Deltas.{Delta, State, apply_of}
use Rattle.hera_meaning.specs.Worlds.{Event, out, store}
use Rattle.hera_meaning.specs.Run.{printed, state_after}
use Rattle.hera_code.specs.Reached.{stores}
use Rattle.hera_machine.specs.Over.{state_over}

pub printed-append : (es fs : List Event) → printed (es ++ fs) ≡ printed es ++ printed fs
printed-append [] fs = refl
printed-append (out bs ∷ es) fs = ap (λ xs. bs ++ xs) (printed-append es fs) ∙ sym (append_assoc bs (printed es) (printed fs))
printed-append (store s d ∷ es) fs = printed-append es fs

pub state_after-append : (s : State) (es fs : List Event) → state_after s (es ++ fs) ≡ state_after (state_after s es) fs
state_after-append s [] fs = refl
state_after-append s (out bs ∷ es) fs = state_after-append s es fs
state_after-append s (store t d ∷ es) fs = state_after-append t es fs

pub stores-append : (es fs : List Event) → stores (es ++ fs) ≡ stores es + stores fs
stores-append [] fs = sym (zero-add (stores fs))
stores-append (out bs ∷ es) fs = stores-append es fs
stores-append (store t d ∷ es) fs = let ih : stores (es ++ fs) ≡ stores es + stores fs = stores-append es fs in omega (arith, ih)

pub state_over-push : (s : State) (ds : List Delta) (d : Delta) → state_over s (ds ++ d ∷ []) ≡ apply_of (state_over s ds) d
state_over-push s [] d = refl
state_over-push s (x ∷ ds) d = state_over-push (apply_of s x) ds d
