-- How a cut of a run goes on.
use Rattle.std.proofs.Common.{◌≡◌, ℕ, zero, suc, inl, inr, ⊎_elim, List, [], ◌∷◌, ◌++◌, take, Option, Some, refl, sym, ap, subst, ◌∙◌, append_assoc}
use Rattle.std.specs.Io.KnownBytes.{Appends}
use Rattle.std.proofs.KnownBytes.{Appends-trans}
use Rattle.hera_meaning.specs.Deltas.{State}
use Rattle.hera_meaning.specs.Worlds.{Event, out, store}
use Rattle.hera_meaning.specs.Run.{printed, state_after}
use Rattle.hera_machine.proofs.Along.{printed-append, state_after-append}
use Rattle.hera_volume.specs.Time.{Image}
use Rattle.hera_volume.specs.declared.file_id.FileId.{FileId}
use Rattle.hera_outcome.specs.Cut.{text_of_next, StoresNext, IsCutWith}

-- a longer list of events begins with the same event, or with the first behind a list without any
text_longer : (rest more : List Event) (n : ℕ) → (m : ℕ) × (take n (text_of_next rest) ≡ take m (text_of_next (rest ++ more)))
text_longer [] more zero = (0, refl)
text_longer [] more (suc n) = (0, refl)
text_longer (out bytes ∷ rest) more n = (n, refl)
text_longer (store s d ∷ rest) more n = (n, refl)

next_longer : (rest more : List Event) (s : State) → StoresNext rest s → StoresNext (rest ++ more) s
next_longer [] more s next = absurd next
next_longer (out bytes ∷ rest) more s next = absurd next
next_longer (store t d ∷ rest) more s next = next

module _ (finds : (FileId → List ℕ) → State → Type 0) where
  -- a cut of the first events is one of all
  pub cut-longer : (front more events : List Event) (from : State) (start : Option (List ℕ)) (c : Image) → front ++ more ≡ events → IsCutWith finds front from start c → IsCutWith finds events from start c
  cut-longer front more events from start c joined cut =
      let text = text_longer cut.rest more cut.front in
      record {
        done = cut.done;
        rest = cut.rest ++ more;
        split = sym (append_assoc cut.done cut.rest more) ∙ ap (λ (es : List Event). es ++ more) cut.split ∙ joined;
        front = text.0;
        bytes = subst (λ (l : List ℕ). Appends start (Some c.emitted) (printed cut.done ++ l)) text.1 cut.bytes;
        state = cut.state;
        found = cut.found;
        stored = ⊎_elim (λ is. inl is) (λ next. inr (next_longer cut.rest more cut.state next)) cut.stored;
      }

  -- a cut of what follows, after some events that were carried out
  pub cut-behind : (done events : List Event) (from here : State) (start mid : Option (List ℕ)) (c : Image) → Appends start mid (printed done) → here ≡ state_after from done
      → IsCutWith finds events here mid c → IsCutWith finds (done ++ events) from start c
  cut-behind done events from here start mid c said is cut =
      let text = take cut.front (text_of_next cut.rest) in
      record {
        done = done ++ cut.done;
        rest = cut.rest;
        split = append_assoc done cut.done cut.rest ∙ ap (λ (es : List Event). done ++ es) cut.split;
        front = cut.front;
        bytes = subst (λ (l : List ℕ). Appends start (Some c.emitted) l)
            (sym (append_assoc (printed done) (printed cut.done) text) ∙ ap (λ (l : List ℕ). l ++ text) (sym (printed-append done cut.done)))
            (Appends-trans _ _ _ _ _ said cut.bytes);
        state = cut.state;
        found = cut.found;
        stored = ⊎_elim (λ (own : cut.state ≡ state_after here cut.done). inl (own ∙ ap (λ (s : State). state_after s cut.done) is ∙ sym (state_after-append from done cut.done))) (λ next. inr next) cut.stored;
      }

-- what is found by the second is found by the first
pub cut-found : (first second : (FileId → List ℕ) → State → Type 0) (events : List Event) (from : State) (start : Option (List ℕ)) (c : Image) → ((files : FileId → List ℕ) (s : State) → second files s → first files s)
    → IsCutWith second events from start c → IsCutWith first events from start c
cut-found first second events from start c weaker cut = record {
  done = cut.done;
  rest = cut.rest;
  split = cut.split;
  front = cut.front;
  bytes = cut.bytes;
  state = cut.state;
  found = weaker c.files cut.state cut.found;
  stored = cut.stored;
}
