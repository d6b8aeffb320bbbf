-- What a crash leaves of a journal while a record is sealed.
use Rattle.std.proofs.Common.{◌≡◌, ◌≢◌, ◌⊎◌, inl, inr, ℕ, ◌+◌, ◌<◌, ◌≤◌, max, List, [], ◌∷◌, ◌++◌, length, get_or, take, drop, refl, sym, ap, subst, ◌∙◌, arith, length-take, length-append, append_assoc, take-append-drop}
use Rattle.std.proofs.lemmas.Bool.{cases_eq}
use Rattle.std.proofs.lemmas.List.{drop_more, take_more, take_at, drop_at, take-take, get_or-take}
use Rattle.hera_volume.specs.Disk.{Disk, IsImage, after_write, after_sync, splice}
use Rattle.hera_volume.proofs.Images.{IsTorn, image-written, length-splice, settled-after_sync}
use Rattle.commit_journal.specs.Gate.{IsWithout, IsWith, IsEither, IsReady}

-- a list is what stands before a place, the byte there, and the rest
pub at_place : (bytes : List ℕ) (end : ℕ) → end < length bytes → bytes ≡ take end bytes ++ (get_or bytes end 0 ∷ drop (end + 1) bytes)
at_place bytes end lt = sym (take-append-drop end bytes) ∙ ap (λ (l : List ℕ). take end bytes ++ l) (drop_more bytes end 0 lt)

module _ (old : List ℕ) (end : ℕ) (within : end < length old) (shut : get_or old end 0 ≢ 1) where
  -- the gate stands in each outcome of the write behind it
  pub torn_behind : (n : ℕ) (c : List ℕ) → IsTorn (end + 1) n old c → IsWithout (take end old) c
  torn_behind n c torn =
      let front : take end c ≡ take end old = sym (take-take end (end + 1) c (omega arith)) ∙ ap (λ (l : List ℕ). take end l) torn.before ∙ take-take end (end + 1) old (omega arith) in
      let gate : get_or c end 0 ≡ get_or old end 0 = sym (get_or-take (end + 1) c end 0 (omega arith)) ∙ ap (λ (l : List ℕ). get_or l end 0) torn.before ∙ get_or-take (end + 1) old end 0 (omega arith) in
      record {
        gate = get_or old end 0;
        rest = drop (end + 1) c;
        is = at_place c end (omega (arith, within, torn.no_shorter)) ∙ ap (λ (l : List ℕ). l ++ (get_or c end 0 ∷ drop (end + 1) c)) front ∙ ap (λ (g : ℕ). take end old ++ (g ∷ drop (end + 1) c)) gate;
        shut = shut;
      }

  -- the file with the record behind the closed gate
  pub staged_is : (body : List ℕ) → splice old (end + 1) (body ++ 0 ∷ []) ≡ take end old ++ (get_or old end 0 ∷ (body ++ (0 ∷ drop (end + 1 + length (body ++ 0 ∷ [])) old)))
  staged_is body = ap (λ (l : List ℕ). l ++ (body ++ 0 ∷ []) ++ drop (end + 1 + length (body ++ 0 ∷ [])) old) (take_more old end 0 within) ∙ simp append_assoc

-- the record stands whole in each outcome of the write of the gate
pub torn_gate : (front body rest c : List ℕ) (gate : ℕ) → IsTorn (length front) 1 (front ++ (gate ∷ (body ++ (0 ∷ rest)))) c → IsWithout front c ⊎ IsWith front body c
torn_gate front body rest c gate torn =
    let old = front ++ (gate ∷ (body ++ (0 ∷ rest))) in
    let long : length front < length c = omega (arith, torn.no_shorter, length-append front (gate ∷ (body ++ (0 ∷ rest)))) in
    let before : take (length front) c ≡ front = torn.before ∙ take_at front (gate ∷ (body ++ (0 ∷ rest))) (length front) refl in
    let after : drop (length front + 1) c ≡ body ++ (0 ∷ rest) = torn.after ∙ ap (λ (l : List ℕ). drop (length front + 1) l) (sym (append_assoc front (gate ∷ []) (body ++ (0 ∷ rest)))) ∙ drop_at (front ++ gate ∷ []) (body ++ (0 ∷ rest)) (length front + 1) (omega (arith, length-append front (gate ∷ []))) in
    let whole : c ≡ front ++ (get_or c (length front) 0 ∷ (body ++ (0 ∷ rest))) =
    at_place c (length front) long ∙ ap (λ (l : List ℕ). l ++ (get_or c (length front) 0 ∷ drop (length front + 1) c)) before
    ∙ ap (λ (l : List ℕ). front ++ (get_or c (length front) 0 ∷ l)) after in
    elim (cases_eq (get_or c (length front) 0) 1) [
      | inl opened ↦ inr (record { rest = rest; is = whole ∙ ap (λ (g : ℕ). front ++ (g ∷ (body ++ (0 ∷ rest)))) opened })
      | inr shut ↦ inl (record { gate = get_or c (length front) 0; rest = body ++ (0 ∷ rest); is = whole; shut = shut })
    ]

-- the gate is opened
splice_gate : (front tail : List ℕ) (gate : ℕ) → splice (front ++ (gate ∷ tail)) (length front) (1 ∷ []) ≡ front ++ (1 ∷ tail)
splice_gate front tail gate =
    ap (λ (l : List ℕ). l ++ (1 ∷ []) ++ drop (length front + 1) (front ++ (gate ∷ tail))) (take_at front (gate ∷ tail) (length front) refl)
    ∙ ap (λ (l : List ℕ). front ++ (1 ∷ []) ++ l)
    (ap (λ (l : List ℕ). drop (length front + 1) l) (sym (append_assoc front (gate ∷ []) tail)) ∙ drop_at (front ++ gate ∷ []) tail (length front + 1) (omega (arith, length-append front (gate ∷ []))))
    ∙ append_assoc front (1 ∷ []) tail

-- the two writes of a record, on a file that is ready for it
module _ (d : Disk) (end : ℕ) (body : List ℕ) (ready : IsReady d end) where
  abbrev front : List ℕ
  front = take end d.bytes

  abbrev gate : ℕ
  gate = get_or d.bytes end 0

  abbrev rest : List ℕ
  rest = drop (end + 1 + length (body ++ 0 ∷ [])) d.bytes

  abbrev staged : Disk
  staged = after_sync (after_write d (end + 1) (body ++ 0 ∷ []))

  staged_bytes : staged.bytes ≡ front ++ (gate ∷ (body ++ (0 ∷ rest)))
  staged_bytes = staged_is d.bytes end ready.within ready.shut body

  length_front : length front ≡ end
  length_front = omega (arith, length-take end d.bytes, ready.within)

  length_staged : length staged.bytes ≡ max (length d.bytes) (end + 1 + length (body ++ 0 ∷ []))
  length_staged = length-splice d.bytes (end + 1) (body ++ 0 ∷ []) (omega (arith, ready.within))

  -- the gate still fits in the file
  pub gate_fits : end ≤ length staged.bytes
  gate_fits = omega (arith, length_staged, ready.within)

  pub behind : (c : List ℕ) → IsImage (after_write d (end + 1) (body ++ 0 ∷ [])) c → IsEither front body d.bytes c
  behind c image =
      let torn = image-written d (end + 1) (body ++ 0 ∷ []) c (omega (arith, ready.within)) image ready.settled in
      record {
        journal = inl (torn_behind d.bytes end ready.within ready.shut (length (body ++ 0 ∷ [])) c torn);
        no_longer = omega (arith, torn.no_longer, length_front, length-append body (0 ∷ []));
      }

  pub opening : (c : List ℕ) → IsImage (after_write staged end (1 ∷ [])) c → IsEither front body d.bytes c
  opening c image =
      let torn = image-written staged end (1 ∷ []) c gate_fits image (settled-after_sync (after_write d (end + 1) (body ++ 0 ∷ []))) in
      record {
        journal = torn_gate front body rest c gate (subst (λ (n : ℕ). IsTorn n 1 (front ++ (gate ∷ (body ++ (0 ∷ rest)))) c) (sym length_front)
            (subst (λ (l : List ℕ). IsTorn end 1 l c) staged_bytes torn));
        no_longer = omega (arith, torn.no_longer, length_staged, length_front, length-append body (0 ∷ []));
      }

  pub opened : IsWith front body (after_write staged end (1 ∷ [])).bytes
  opened = record {
    rest = rest;
    is = ap (λ (l : List ℕ). splice l end (1 ∷ [])) staged_bytes
        ∙ ap (λ (n : ℕ). splice (front ++ (gate ∷ (body ++ (0 ∷ rest)))) n (1 ∷ [])) (sym length_front) ∙ splice_gate front (body ++ (0 ∷ rest)) gate;
  }

  -- and the file is no longer than it was or than the record needs
  pub opened_length : length (after_write staged end (1 ∷ [])).bytes ≤ max (length d.bytes) (end + length body + 2)
  opened_length = omega (arith, length-splice staged.bytes end (1 ∷ []) gate_fits, length_staged, length-append body (0 ∷ []))
