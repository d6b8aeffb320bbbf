-- What worlds keep: a state, a pending delta that leads to it, and stored states and deltas of the program's relations.
use Rattle.std.proofs.Common.{◌≡◌, ℕ, ◌+◌, List, [], ◌∷◌, ◌++◌, Option, Some, None, refl, sym, ap, ◌∙◌, subst, arith, false}
use Rattle.hera_meaning.specs.declared.schemas.RelDecl.{RelDecl}
use Rattle.hera_meaning.specs.Deltas.{Atom, Delta, fail, atoms, State, apply_of, smash_of, is_fail}
use Rattle.hera_meaning.specs.Hosts.{Hosts}
use Rattle.hera_meaning.specs.Printed.{commit_text}
use Rattle.hera_meaning.specs.Worlds.{Event, out, store, World, world_at, with_event, after_delta, committed, rolled_back}
use Rattle.hera_code.specs.Machine.{after_layers}
use Rattle.hera_code.specs.Reached.{stores}
use Rattle.hera_codegen.proofs.HasForm.{IsDeltaIn, IsChangeIn, IsStateIn}
use Rattle.hera_codegen.proofs.Facts.{Facts}
use Rattle.hera_codegen.proofs.Steps.{Around}
use Rattle.hera_codegen.proofs.Evaluates.{Here}

-- each stored state and delta is of these relations
abbrev pub AreFine : List RelDecl → List Event → Type 0
AreFine rels [] = Unit {0}
AreFine rels (out bytes ∷ es) = AreFine rels es
AreFine rels (store s d ∷ es) = (IsStateIn rels s × IsDeltaIn rels d × (is_fail d ≡ false)) × AreFine rels es

pub fine_more : (rels : List RelDecl) (es fs : List Event) → AreFine rels es → AreFine rels fs → AreFine rels (es ++ fs)
fine_more rels [] fs h g = g
fine_more rels (out bytes ∷ es) fs h g = fine_more rels es fs h g
fine_more rels (store s d ∷ es) fs h g = (h.0, fine_more rels es fs h.1 g)

stores-append : (es fs : List Event) → stores (es ++ fs) ≡ stores es + stores fs
stores-append [] fs = omega arith
stores-append (out bytes ∷ es) fs = stores-append es fs
stores-append (store s d ∷ es) fs = omega (arith, stores-append es fs)

-- a world of main or of a proc
pub record Proper (rels : List RelDecl) (w : World) : Type 0 where
  pub now : IsStateIn rels w.state
  pub before : IsStateIn rels w.stored
  pub change : List Atom
  pub pending_is : w.pending ≡ atoms change
  pub change_is : IsChangeIn rels change
  pub state_is : apply_of w.stored w.pending ≡ w.state
  pub counted : w.commits ≡ stores w.events
  pub fine : AreFine rels w.events

module _ (rels : List RelDecl) (hosts : Hosts) (facts : Facts rels hosts) where
  pub proper_start : (s : State) → IsStateIn rels s → Proper rels (world_at s)
  proper_start s h = record {
    now = h;
    before = h;
    change = [];
    pending_is = refl;
    change_is = record { ascending = tt; atoms_are = tt };
    state_is = facts.nothing s h;
    counted = refl;
    fine = tt;
  }

  pub proper_out : (bytes : List ℕ) (w : World) → Proper rels w → Proper rels (with_event (out bytes) w)
  proper_out bytes w h = record {
    now = h.now;
    before = h.before;
    change = h.change;
    pending_is = h.pending_is;
    change_is = h.change_is;
    state_is = h.state_is;
    counted = omega (arith, h.counted, stores-append w.events (out bytes ∷ []));
    fine = fine_more rels w.events (out bytes ∷ []) h.fine tt;
  }

  smash_change : (d : Delta) (xs : List Atom) → IsDeltaIn rels (smash_of (atoms xs) d) → (ys : List Atom) → d ≡ atoms ys → (zs : List Atom) × (smash_of (atoms xs) d ≡ atoms zs) × IsChangeIn rels zs
  smash_change fail xs h ys e = cc
  smash_change (atoms ys') xs h ys e = (_, refl, h)

  pub proper_after : (xs : List Atom) (w : World) → IsChangeIn rels xs → Proper rels w → Proper rels (after_delta (atoms xs) w)
  proper_after xs w is h =
      let k = smash_change (atoms xs) h.change (facts.smashed h.change xs h.change_is is) xs refl in
      record {
        now = facts.applied w.state xs h.now is;
        before = h.before;
        change = k.0;
        pending_is = ap (λ d. smash_of d (atoms xs)) h.pending_is ∙ k.1;
        change_is = k.2;
        state_is = ap (λ d. apply_of w.stored (smash_of d (atoms xs))) h.pending_is ∙ facts.joint w.stored h.change xs h.before h.change_is is
            ∙ ap (λ d. apply_of (apply_of w.stored d) (atoms xs)) (sym h.pending_is) ∙ ap (λ s. apply_of s (atoms xs)) h.state_is;
        counted = h.counted;
        fine = h.fine;
      }

  pub proper_committed : (w : World) → Proper rels w → Proper rels (committed w)
  proper_committed w h = record {
    now = h.now;
    before = h.now;
    change = [];
    pending_is = refl;
    change_is = record { ascending = tt; atoms_are = tt };
    state_is = facts.nothing w.state h.now;
    counted = omega (arith, h.counted, stores-append w.events (store w.state w.pending ∷ out (commit_text (w.commits + 1)) ∷ []));
    fine = fine_more rels w.events (store w.state w.pending ∷ out (commit_text (w.commits + 1)) ∷ []) h.fine ((h.now, subst (IsDeltaIn rels) (sym h.pending_is) h.change_is, ap is_fail h.pending_is), tt);
  }

  pub proper_back : (w : World) → Proper rels w → Proper rels (rolled_back w)
  proper_back w h = record {
    now = h.before;
    before = h.before;
    change = [];
    pending_is = refl;
    change_is = record { ascending = tt; atoms_are = tt };
    state_is = facts.nothing w.stored h.before;
    counted = h.counted;
    fine = h.fine;
  }

-- ---- the machine's world: in main and procs the meaning's own, in a func that of the call

abbrev pub real : Option World → World → World
real None w = w
real (Some v) w = v

abbrev pub events_of : Option World → List Event → List Event
events_of None es = es
events_of (Some v) es = v.events

abbrev pub Fine : List RelDecl → Option World → List Event → Type 0
Fine rels None es = AreFine rels es
Fine rels (Some v) es = Unit {0}

abbrev pub IsGood : List RelDecl → Option World → Around → World → Type 0
IsGood rels None x w = (x.layers ≡ []) × Proper rels w
IsGood rels (Some v) x w = Here rels v x w.state

pub good_here : (rels : List RelDecl) (base : Option World) (x : Around) (w : World) → IsGood rels base x w → Here rels (real base w) x w.state
good_here rels None x w h = record { state_is = h.1.now; stands = ap (λ ds. after_layers (apply_of w.stored w.pending) ds) h.0 ∙ h.1.state_is }
good_here rels (Some v) x w h = h

-- walks do not matter
pub good_around : (rels : List RelDecl) (base : Option World) (x y : Around) (w : World) → x.layers ≡ y.layers → IsGood rels base x w → IsGood rels base y w
good_around rels None x y w e h = (sym e ∙ h.0, h.1)
good_around rels (Some v) x y w e h = record { state_is = h.state_is; stands = ap (λ ds. after_layers (apply_of v.stored v.pending) ds) (sym e) ∙ h.stands }
