-- What obeys the productions is the outline of a tree.
use Rattle.std.proofs.Common.{◌≡◌, ◌<◌, ℕ, zero, suc, List, [], ◌∷◌, ◌++◌, length, refl, sym, ap, ◌∙◌, append-nil, append_assoc, arith, length-append}
use Rattle.hera_syntax.specs.declared.token.Token.{Token}
use Rattle.hera_syntax.specs.declared.token.Terminal.{Terminal}
use Rattle.hera_syntax.specs.declared.tree.Tree.{Tree}
use Rattle.hera_syntax.specs.Grammar.{Production, Part, keep, leave, phrase, alternatives, alternative}
use Rattle.hera_syntax.specs.Grammar as phrases
use Rattle.hera_syntax.specs.Outline.{Entry, at_node, kept, left_out, node, hold, skip}
use Rattle.hera_syntax.specs.Programs.{outline}
use Rattle.hera_syntax.specs.Trees.{printed, Obeys, no_part, keeps, leaves, produces}
use Rattle.hera_readings.proofs.Nodes.{Node, marks_of, Parts, spelled}
use Rattle.hera_readings.proofs.Fits.{Short, long_printed}
use Rattle.hera_readings.proofs.Made.{make}
use Rattle.hera_readings.proofs.Makes.{Made}

-- a value of the production's phrase stands in front of what obeys the other parts
record Reads (s : Production) (ps : List Part) (ms : List Entry) : Type 0 where
  pub value : Node s
  pub rest : List Entry
  pub cut : ms ≡ marks_of s value ++ rest
  pub obeys : Obeys ps rest

-- the same for some parts, behind what stands before them
record Splits (q ps : List Part) (front ms : List Entry) : Type 0 where
  pub parts : Parts q
  pub rest : List Entry
  pub cut : front ++ ms ≡ spelled front q parts ++ rest
  pub obeys : Obeys ps rest

record Kept (ps : List Part) (ms : List Entry) : Type 0 where
  pub token : Token
  pub rest : List Entry
  pub cut : ms ≡ kept token ∷ rest
  pub obeys : Obeys ps rest

record Left (c : Terminal) (ps : List Part) (ms : List Entry) : Type 0 where
  pub rest : List Entry
  pub cut : ms ≡ left_out c ∷ rest
  pub obeys : Obeys ps rest

record Produced (s : Production) (ps : List Part) (ms : List Entry) : Type 0 where
  pub number : ℕ
  pub within : number < length (alternatives s)
  pub rest : List Entry
  pub cut : ms ≡ at_node s number ∷ rest
  pub obeys : Obeys (alternative s number ++ ps) rest

is_kept : {codes : List Terminal} {ps : List Part} {ms : List Entry} → Obeys (keep codes ∷ ps) ms → Kept ps ms
is_kept (keeps {t = t} {ms = ms} h o) = record { token = t; rest = ms; cut = refl; obeys = o }

is_left : {c : Terminal} {ps : List Part} {ms : List Entry} → Obeys (leave c ∷ ps) ms → Left c ps ms
is_left (leaves {ms = ms} o) = record { rest = ms; cut = refl; obeys = o }

is_produced : {s : Production} {ps : List Part} {ms : List Entry} → Obeys (phrase s ∷ ps) ms → Produced s ps ms
is_produced (produces {k = k} {ms = ms} l o) = record { number = k; within = l; rest = ms; cut = refl; obeys = o }

-- what stands behind the front of a short outline is short
behind : (ms a rest : List Entry) → ms ≡ a ++ rest → Short ms → Short rest
behind ms a rest e short = let both = ap (λ x. length (printed x)) e ∙ long_printed a rest in omega (arith, both, short)

within : (ms a rest : List Entry) (n : ℕ) → ms ≡ a ++ rest → length ms < n → length rest < n
within ms a rest n e l = let both = ap length e ∙ length-append a rest in omega (arith, both, l)

abbrev Reader : ℕ → Type 0
Reader n = (s : Production) (ps : List Part) (ms : List Entry) → length ms < n → Short ms → Obeys (phrase s ∷ ps) ms → Reads s ps ms

split : (n : ℕ) → Reader n → (q ps : List Part) (front ms : List Entry) → length ms < n → Short ms → Obeys (q ++ ps) ms → Splits q ps front ms
split n read [] ps front ms l short o = record { parts = tt; rest = ms; cut = refl; obeys = o }
split n read (keep codes ∷ q) ps front ms l short o =
    let k = is_kept o in
    let r = split n read q ps (front ++ hold k.token) k.rest (within ms (hold k.token) k.rest n k.cut l) (behind ms (hold k.token) k.rest k.cut short) k.obeys in
    record { parts = (k.token, r.parts); rest = r.rest; cut = ap (λ x. front ++ x) k.cut ∙ sym (append_assoc front (hold k.token) k.rest) ∙ r.cut; obeys = r.obeys }
split n read (leave c ∷ q) ps front ms l short o =
    let k = is_left o in
    let r = split n read q ps (front ++ skip c) k.rest (within ms (skip c) k.rest n k.cut l) (behind ms (skip c) k.rest k.cut short) k.obeys in
    record { parts = r.parts; rest = r.rest; cut = ap (λ x. front ++ x) k.cut ∙ sym (append_assoc front (skip c) k.rest) ∙ r.cut; obeys = r.obeys }
split n read (phrase s ∷ q) ps front ms l short o =
    let k = read s (q ++ ps) ms l short o in
    let here : List Entry = marks_of s k.value in
    let r = split n read q ps (front ++ here) k.rest (within ms here k.rest n k.cut l) (behind ms here k.rest k.cut short) k.obeys in
    record { parts = (k.value, r.parts); rest = r.rest; cut = ap (λ x. front ++ x) k.cut ∙ sym (append_assoc front here k.rest) ∙ r.cut; obeys = r.obeys }

-- the value that is made of what was split off
made_reads : {s : Production} {ps : List Part} {ms : List Entry} (front rest : List Entry) → Made s front → ms ≡ front ++ rest → Obeys ps rest → Reads s ps ms
made_reads front rest m cut o = record { value = m.0; rest = rest; cut = cut ∙ ap (λ x. x ++ rest) (sym m.1); obeys = o }

front_short : (ms front rest : List Entry) → ms ≡ front ++ rest → Short ms → Short front
front_short ms front rest e short = let both = ap (λ x. length (printed x)) e ∙ long_printed front rest in omega (arith, both, short)

from_parts : (s : Production) (k : ℕ) (ps : List Part) (ms rest : List Entry) → k < length (alternatives s) → ms ≡ at_node s k ∷ rest → Short ms → Splits (alternative s k) ps (node s k) rest → Reads s ps ms
from_parts s k ps ms rest l e short r =
    let front : List Entry = spelled (node s k) (alternative s k) r.parts in
    let cut : ms ≡ front ++ r.rest = e ∙ r.cut in
    made_reads front r.rest (make s k l r.parts (front_short ms front r.rest cut short)) cut r.obeys

read_here : (n : ℕ) → Reader n → (s : Production) (ps : List Part) (ms : List Entry) → length ms < suc n → Short ms → Obeys (phrase s ∷ ps) ms → Reads s ps ms
read_here n read s ps ms l short o =
    let k = is_produced o in
    let long : length k.rest < n = (let both = ap length k.cut in omega (arith, both, l)) in
    from_parts s k.number ps ms k.rest k.within k.cut short (split n read (alternative s k.number) ps (node s k.number) k.rest long (behind ms (node s k.number) k.rest k.cut short) k.obeys)

reader : (n : ℕ) → Reader n
reader zero s ps ms l short o = absurd (omega (arith, l))
reader (suc n) s ps ms l short o = read_here n (reader n) s ps ms l short o

nothing_left : {ms : List Entry} → Obeys [] ms → ms ≡ []
nothing_left no_part = refl

-- a short outline that obeys the productions is that of a tree
pub tree_of : (ms : List Entry) → Short ms → Obeys (phrase phrases.program ∷ []) ms → (tree : Tree) × (outline tree ≡ ms)
tree_of ms short o =
    let r = reader (suc (length ms)) phrases.program [] ms (omega arith) short o in
    (r.value, sym (r.cut ∙ ap (λ x. outline r.value ++ x) (nothing_left r.obeys) ∙ append-nil (outline r.value)))
