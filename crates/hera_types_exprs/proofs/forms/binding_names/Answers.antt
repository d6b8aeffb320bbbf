use Rattle.std.proofs.Common.{◌≡◌, ℕ, ◌+◌, ◌<◌, ◌≤◌, List, [], ◌∷◌, ◌++◌, length, get_or, take, map, sym, ap, ◌∙◌, append_assoc}
use Rattle.std.proofs.lemmas.List.{take_all, take_more, map-append}
use Rattle.hera_syntax.specs.declared.expr.Binding.{Binding, out-Binding}
use Rattle.hera_syntax.specs.declared.expr.Bindings.{Bindings, out-Bindings}
use Rattle.hera_rules.specs.declared.words.Word.{Word}
use Rattle.hera_rules.specs.Read.{word_of, binding_word, bindings_words}
use Rattle.hera_rules.proofs.ReadLaws.{binding_word-read, bindings_words-read}
use Rattle.hera_types_exprs.proofs.forms.binding_names.Goals as goal

-- one name more
names_turn : (bs : List Binding) (i : ℕ) (b : Binding) (w : Word) (start : List Word) {all more : List Word} → i < length bs → b ≡ get_or bs i b → w ≡ word_of (out-Binding b).name → more ≡ all ++ w ∷ [] →
    all ≡ start ++ map binding_word (take i bs) → more ≡ start ++ map binding_word (take (i + 1) bs)
names_turn bs i b w start h e k j inv =
    let named : w ≡ binding_word (get_or bs i b) = k ∙ sym (binding_word-read b) ∙ ap binding_word e in
    j ∙ ap (λ all. all ++ w ∷ []) inv ∙ append_assoc start (map binding_word (take i bs)) (w ∷ [])
    ∙ ap (λ r. start ++ r) (ap (λ w. map binding_word (take i bs) ++ w ∷ []) named ∙ sym (map-append binding_word (take i bs) (get_or bs i b ∷ [])) ∙ ap (map binding_word) (sym (take_more bs i b h)))

-- all of them
names_whole : (a : Bindings) (bs : List Binding) (i : ℕ) (w : Word) (start : List Word) {all : List Word} → bs ≡ (out-Bindings a).rest.items → length bs ≤ i → w ≡ word_of (out-Binding (out-Bindings a).first).name → start ≡ w ∷ [] →
    all ≡ start ++ map binding_word (take i bs) → all ≡ bindings_words a
names_whole a bs i w start d h k s inv =
    inv ∙ ap (λ s. s ++ map binding_word (take i bs)) s ∙ ap (λ w. w ∷ map binding_word (take i bs)) (k ∙ sym (binding_word-read (out-Bindings a).first))
    ∙ ap (λ bs. binding_word (out-Bindings a).first ∷ map binding_word bs) (take_all i bs h ∙ d) ∙ sym (bindings_words-read a)

pub loop-binding-preserved : goal.loop-binding-preserved
loop-binding-preserved c = names_turn _ _ _ _ _ c.loop-binding-test.true c.binding-item.is c.in_ok-word-2.ensures.word c.in_ok-put-2.ensures c.loop-binding.invariant

pub returns-clause-names : goal.returns-clause-names
returns-clause-names c =
    names_whole _ _ _ _ _ c.deref-binding-items.ensures.value c.loop-binding-test.false c.in_ok-word.ensures.word
    (c.in_ok-put.ensures ∙ ap (λ r. r ++ c.in_ok-word.field-0 ∷ []) c.new-all.ensures.items) c.loop-binding.invariant
