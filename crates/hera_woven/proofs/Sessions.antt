-- Programs bound one after another, with their code, as sessions.
use Rattle.std.proofs.Common.{◌≡◌, ℕ, zero, suc, ◌+◌, ◌<◌, List, [], ◌∷◌, ◌++◌, take, drop, map, length, Some, refl, sym, ap, ◌∙◌, subst, arith, append-nil, append_assoc}
use Rattle.std.specs.Prelude.{slice_get, get_or, All}
use Rattle.std.proofs.lemmas.List.{take_more, map-append, map-id, length-map, take-append-drop}
use Rattle.std.proofs.lemmas.List.Elements.{All-push}
use Rattle.std.proofs.lemmas.Option.{none-some}
use Rattle.hera_meaning.specs.declared.schemas.RelDecl.{RelDecl}
use Rattle.hera_meaning.specs.declared.trees.Program.{Program}
use Rattle.hera_meaning.specs.Hosts.{Hosts}
use Rattle.hera_meaning.specs.Plain.{program_of}
use Rattle.hera_meaning.specs.Sound.{Sound}
use Rattle.hera_meaning.specs.Trees.{Program_tree}
use Rattle.hera_code.specs.declared.instrs.Code.{Code}
use Rattle.hera_code.specs.Scheme.{code_of}
use Rattle.hera_rules.specs.Bound.{bound, Differs, differs_here, differs_later}
use Rattle.hera_bind.specs.Having.{AllHas}
use Rattle.hera_sessions.specs.Sessions.{Task}
use Rattle.hera_sessions.specs.Weaving.{AreTasks}
use Rattle.hera_outcome.specs.declared.answer.Stop.{Stop}
use Rattle.hera_weave.specs.Tasks.{HasCode, task_of}
use Rattle.hera_weave.specs.declared.weave.Session.{Session}
use Rattle.hera_woven.specs.Weaving.{relations_of, all_bound, tasks_of}
use Rattle.hera_woven.specs.Binding.{AreSound, HaveRelations, IsUnbound, lacks, short, codes_of}

-- ---- one more

relations_push : (ps : List Program_tree) (p : Program_tree) → relations_of (ps ++ p ∷ []) ≡ relations_of ps ++ p.relations
relations_push [] p = append-nil p.relations
relations_push (x ∷ ps) p = ap (λ (l : List RelDecl). x.relations ++ l) (relations_push ps p) ∙ sym (append_assoc x.relations (relations_of ps) p.relations)

bound_push : (rels : List RelDecl) (ps : List Program_tree) (p : Program_tree) → all_bound rels (ps ++ p ∷ []) ≡ all_bound rels ps ++ bound p rels ∷ []
bound_push rels [] p = refl
bound_push rels (x ∷ ps) p = ap (λ (l : List Program_tree). bound x rels ∷ l) (bound_push rels ps p)

codes_push : (ps : List Program_tree) (p : Program_tree) → codes_of (ps ++ p ∷ []) ≡ codes_of ps ++ code_of p ∷ []
codes_push [] p = refl
codes_push (x ∷ ps) p = ap (λ (l : List Code). code_of x ∷ l) (codes_push ps p)

tasks_push : (turns : ℕ) (ps : List Program_tree) (p : Program_tree) → tasks_of turns (ps ++ p ∷ []) ≡ tasks_of turns ps ++ record { program = p; turns = turns } ∷ []
tasks_push turns [] p = refl
tasks_push turns (x ∷ ps) p = ap (λ (l : List Task). record { program = x; turns = turns } ∷ l) (tasks_push turns ps p)

has_append : (rels own more : List RelDecl) → AllHas rels own → AllHas rels more → AllHas rels (own ++ more)
has_append rels [] more h g = g
has_append rels (d ∷ own) more h g = (h.0, has_append rels own more h.1 g)

differs_append : (rels own more : List RelDecl) (name : List ℕ) → AllHas rels own → Differs rels more name → Differs rels (own ++ more) name
differs_append rels [] more name h g = g
differs_append rels (d ∷ own) more name h g = differs_later h.0 (differs_append rels own more name h.1 g)

differs_front : (rels own more : List RelDecl) (name : List ℕ) → Differs rels own name → Differs rels (own ++ more) name
differs_front rels [] more name none = elim none [ ]
differs_front rels (d ∷ own) more _ (differs_here is) = differs_here is
differs_front rels (d ∷ own) more name (differs_later has rest) = differs_later has (differs_front rels own more name rest)

sound_push : (hosts : Hosts) (ps : List Program_tree) (p : Program_tree) → AreSound hosts ps → Sound p hosts → AreSound hosts (ps ++ p ∷ [])
sound_push hosts [] p h is = (is, tt)
sound_push hosts (x ∷ ps) p h is = (h.0, sound_push hosts ps p h.1 is)

sound_front : (hosts : Hosts) (ps : List Program_tree) (p : Program_tree) → AreSound hosts (ps ++ p ∷ []) → AreSound hosts ps × Sound p hosts
sound_front hosts [] p h = (tt, h.0)
sound_front hosts (x ∷ ps) p h = let rest = sound_front hosts ps p h.1 in ((h.0, rest.0), rest.1)

-- ---- loops

-- the first programs of a list, and one more
first_more : (xs : List Program) (k : ℕ) (x : Program) → k < length xs → x ≡ get_or xs k x → map program_of (take (k + 1) xs) ≡ map program_of (take k xs) ++ program_of x ∷ []
first_more xs k x lt at = ap (map program_of) (take_more xs k x lt ∙ ap (λ (y : Program). take k xs ++ y ∷ []) (sym at)) ∙ map-append program_of (take k xs) (x ∷ [])

pub relations_more : (xs : List Program) (k : ℕ) (x : Program) (ds : List RelDecl) → k < length xs → x ≡ get_or xs k x → ds ≡ relations_of (map program_of (take k xs)) → ds ++ x.relations.items ≡ relations_of (map program_of (take (k + 1) xs))
relations_more xs k x ds lt at h =
    ap (λ (l : List RelDecl). l ++ x.relations.items) h ∙ sym (ap relations_of (first_more xs k x lt at) ∙ relations_push (map program_of (take k xs)) (program_of x))

pub codes_more : (xs : List Program) (k : ℕ) (x : Program) (cs : List Code) (c : Code) → k < length xs → x ≡ get_or xs k x → cs ≡ codes_of (map program_of (take k xs)) → c ≡ code_of (program_of x)
    → cs ++ c ∷ [] ≡ codes_of (map program_of (take (k + 1) xs))
codes_more xs k x cs c lt at h is =
    ap (λ (l : List Code). l ++ c ∷ []) h ∙ ap (λ (d : Code). codes_of (map program_of (take k xs)) ++ d ∷ []) is ∙ sym (ap codes_of (first_more xs k x lt at) ∙ codes_push (map program_of (take k xs)) (program_of x))

-- what was bound so far
pub record AreBound (rels : List RelDecl) (from to : List Program) : Type 0 where
  pub bounds : map program_of to ≡ all_bound rels (map program_of from)
  pub has : AllHas rels (relations_of (map program_of from))
  pub sound : (hosts : Hosts) → AreSound hosts (map program_of from) → AreSound hosts (map program_of to)

pub bound_more : (rels : List RelDecl) (from to : List Program) (p b : Program) → AreBound rels from to → program_of b ≡ bound (program_of p) rels → AllHas rels p.relations.items → ((hosts : Hosts) → Sound (program_of p) hosts → Sound (program_of b) hosts)
    → AreBound rels (from ++ p ∷ []) (to ++ b ∷ [])
bound_more rels from to p b h is has sound =
    let all : map program_of (from ++ p ∷ []) ≡ map program_of from ++ program_of p ∷ [] = map-append program_of from (p ∷ []) in
    let bounds : map program_of (to ++ b ∷ []) ≡ map program_of to ++ program_of b ∷ [] = map-append program_of to (b ∷ []) in
    record {
      bounds = bounds ∙ ap (λ (l : List Program_tree). l ++ program_of b ∷ []) h.bounds ∙ ap (λ (x : Program_tree). all_bound rels (map program_of from) ++ x ∷ []) is
          ∙ sym (ap (all_bound rels) all ∙ bound_push rels (map program_of from) (program_of p));
      has = subst (λ (ds : List RelDecl). AllHas rels ds) (sym (ap relations_of all ∙ relations_push (map program_of from) (program_of p))) (has_append rels (relations_of (map program_of from)) p.relations.items h.has has);
      sound = λ hosts are.
          let parts = sound_front hosts (map program_of from) (program_of p) (subst (AreSound hosts) all are) in
          subst (AreSound hosts) (sym bounds) (sound_push hosts (map program_of to) (program_of b) (h.sound hosts parts.0) (sound hosts parts.1));
    }

relations_all : (ps qs : List Program_tree) → relations_of (ps ++ qs) ≡ relations_of ps ++ relations_of qs
relations_all [] qs = refl
relations_all (p ∷ ps) qs = ap (λ (l : List RelDecl). p.relations ++ l) (relations_all ps qs) ∙ sym (append_assoc p.relations (relations_of ps) (relations_of qs))

-- one that is not bound, behind those that were
unbound_at : (rels : List RelDecl) (from to all rest : List Program) (p : Program) (stop : Stop) → AreBound rels from to → from ++ p ∷ rest ≡ all → IsUnbound rels p.relations.items stop → IsUnbound rels (relations_of (map program_of all)) stop
unbound_at rels from to all rest p _ h is (lacks {name = name} lacking) =
    let parts : relations_of (map program_of all) ≡ relations_of (map program_of from) ++ (p.relations.items ++ relations_of (map program_of rest)) =
    ap (λ (l : List Program). relations_of (map program_of l)) (sym is) ∙ ap relations_of (map-append program_of from (p ∷ rest)) ∙ relations_all (map program_of from) (map program_of (p ∷ rest)) in
    lacks (subst (λ (ds : List RelDecl). Differs rels ds name) (sym parts)
    (differs_append rels (relations_of (map program_of from)) (p.relations.items ++ relations_of (map program_of rest)) name h.has (differs_front rels p.relations.items (relations_of (map program_of rest)) name lacking)))
unbound_at rels from to all rest p _ h is short = short

-- the same of one that was yielded behind those
pub unbound_within : (rels : List RelDecl) (from to all : List Program) (p : Program) (stop : Stop) → AreBound rels from to → map (λ (x : Program). x) from ≡ take (length from) all → length from < length all → p ≡ get_or all (length from) p
    → IsUnbound rels p.relations.items stop → IsUnbound rels (relations_of (map program_of all)) stop
unbound_within rels from to all p stop h so_far within at un =
    let n : ℕ = length from in
    let first : from ≡ take n all = sym (map-id from) ∙ so_far in
    let joined : from ++ p ∷ drop (n + 1) all ≡ all =
    sym (append_assoc from (p ∷ []) (drop (n + 1) all))
    ∙ ap (λ (l : List Program). (l ++ p ∷ []) ++ drop (n + 1) all) first
    ∙ ap (λ (x : Program). (take n all ++ x ∷ []) ++ drop (n + 1) all) at
    ∙ ap (λ (l : List Program). l ++ drop (n + 1) all) (sym (take_more all n p within))
    ∙ take-append-drop (n + 1) all in
    unbound_at rels from to all (drop (n + 1) all) p stop h joined un

pub sound_all : (hosts : Hosts) (rels : List RelDecl) (from to all : List Program) → AreBound rels from to → map (λ (x : Program). x) from ≡ all → AreSound hosts (map program_of all) → AreSound hosts (map program_of to)
sound_all hosts rels from to all h is are = h.sound hosts (subst (λ (l : List Program). AreSound hosts (map program_of l)) (sym is ∙ map-id from) are)

-- ---- sessions

long_codes : (ps : List Program_tree) → length (codes_of ps) ≡ length ps
long_codes [] = refl
long_codes (p ∷ ps) = ap suc (long_codes ps)

code_there : (ps : List Program) (i : ℕ) (p : Program) (c : Code) → i < length ps → p ≡ get_or ps i p → c ≡ get_or (codes_of (map program_of ps)) i c → c ≡ code_of (program_of p)
code_there [] i p c lt at is = absurd (omega (arith, lt))
code_there (x ∷ ps) zero p c lt at is = is ∙ ap (λ (y : Program). code_of (program_of y)) (sym at)
code_there (x ∷ ps) (suc i) p c lt at is = code_there ps i p c (omega (arith, lt)) at is

-- one session more
pub record AreMade (ps : List Program) (turns i : ℕ) (xs : List Session) : Type 0 where
  pub code : All HasCode xs
  pub tasks : map task_of xs ≡ tasks_of turns (map program_of (take i ps))

pub made_more : (ps : List Program) (cs : List Code) (turns i : ℕ) (xs ys : List Session) (x : Session) → i < length ps → x.program.now ≡ get_or ps i x.program.now → x.code.now ≡ get_or cs i x.code.now → x.turns ≡ turns → cs ≡ codes_of (map program_of ps)
    → ys ≡ xs ++ x ∷ [] → AreMade ps turns i xs → AreMade ps turns (i + 1) ys
made_more ps cs turns i xs ys x lt at there own are longer h = record {
  code = subst (λ (l : List Session). All HasCode l) (sym longer) (All-push HasCode xs x h.code (code_there ps i x.program.now x.code.now lt at (there ∙ ap (λ (l : List Code). get_or l i x.code.now) are)));
  tasks = ap (map task_of) longer ∙ map-append task_of xs (x ∷ []) ∙ ap (λ (l : List Task). l ++ task_of x ∷ []) h.tasks
      ∙ ap (λ (n : ℕ). tasks_of turns (map program_of (take i ps)) ++ record { program = program_of x.program.now; turns = n } ∷ []) own
      ∙ sym (ap (tasks_of turns) (first_more ps i x.program.now lt at) ∙ tasks_push turns (map program_of (take i ps)) (program_of x.program.now));
}

pub codes_within : (ps : List Program) (cs : List Code) (i : ℕ) → cs ≡ codes_of (map program_of ps) → i < length ps → i < length cs
codes_within ps cs i are lt =
    let long : length cs ≡ length ps = ap (λ (l : List Code). length l) are ∙ long_codes (map program_of ps) ∙ length-map ps program_of in
    omega (arith, long, lt)

pub have_bound : (rels : List RelDecl) (ps : List Program_tree) → HaveRelations rels (all_bound rels ps)
have_bound rels [] = tt
have_bound rels (p ∷ ps) = (refl, have_bound rels ps)

long_tasks : (turns : ℕ) (ps : List Program_tree) → length (tasks_of turns ps) ≡ length ps
long_tasks turns [] = refl
long_tasks turns (p ∷ ps) = ap suc (long_tasks turns ps)

tasks_sound : (hosts : Hosts) (turns : ℕ) (ps : List Program_tree) (i : ℕ) (t : Task) → AreSound hosts ps → slice_get (tasks_of turns ps) i ≡ Some t → Sound t.program hosts
tasks_sound hosts turns [] i t h at = absurd (none-some t at)
tasks_sound hosts turns (p ∷ ps) zero t h at = let same : record { program = p; turns = turns } ≡ t = cc in subst (λ (x : Task). Sound x.program hosts) same h.0
tasks_sound hosts turns (p ∷ ps) (suc i) t h at = tasks_sound hosts turns ps i t h.1 at

tasks_have : (rels : List RelDecl) (turns : ℕ) (ps : List Program_tree) (i : ℕ) (t : Task) → HaveRelations rels ps → slice_get (tasks_of turns ps) i ≡ Some t → t.program.relations ≡ rels
tasks_have rels turns [] i t h at = absurd (none-some t at)
tasks_have rels turns (p ∷ ps) zero t h at = let same : record { program = p; turns = turns } ≡ t = cc in subst (λ (x : Task). x.program.relations ≡ rels) same h.0
tasks_have rels turns (p ∷ ps) (suc i) t h at = tasks_have rels turns ps i t h.1 at

pub are_tasks : (hosts : Hosts) (rels : List RelDecl) (turns : ℕ) (ps : List Program_tree) → AreSound hosts ps → HaveRelations rels ps → AreTasks hosts rels (tasks_of turns ps)
are_tasks hosts rels turns ps sound have = record { sound = λ i t at. tasks_sound hosts turns ps i t sound at; relations = λ i t at. tasks_have rels turns ps i t have at }

pub long_all : (turns : ℕ) (ps : List Program) → length (tasks_of turns (map program_of ps)) ≡ length ps
long_all turns ps = long_tasks turns (map program_of ps) ∙ length-map ps program_of
