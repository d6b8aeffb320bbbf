-- The sessions of accepted scripts over a stored database are sound, with the relations of its catalogue.
use Rattle.std.proofs.Common.{ℕ, List, [], ◌∷◌, ◌++◌, map, sym, subst}
use Rattle.hera_meaning.specs.declared.schemas.RelDecl.{RelDecl}
use Rattle.hera_meaning.specs.Catalogues.{IsCatalogue}
use Rattle.hera_meaning.specs.Deltas.{State, IsState, atoms}
use Rattle.hera_meaning.specs.Trees.{Program_tree}
use Rattle.hera_meaning.proofs.CommitLaws.{state_after_all}
use Rattle.hera_host.specs.Tables.{Host, AreHosts, specs_of}
use Rattle.hera_bind.specs.Having.{AllHas}
use Rattle.hera_bind.proofs.Kept.{bound_sound}
use Rattle.hera_sessions.specs.Weaving.{AreTasks}
use Rattle.hera_volume.specs.declared.file_id.FileId.{FileId}
use Rattle.rel_format.specs.Versions.{IsHalfOf}
use Rattle.hera_store.specs.Databases.{Database, Holds}
use Rattle.hera_store.proofs.Smashes.{records_are_commits}
use Rattle.hera_woven.specs.Binding.{AreSound as AreAllSound}
use Rattle.hera_woven.specs.Weaving.{relations_of, all_bound, tasks_of}
use Rattle.hera_woven.proofs.Sessions.{are_tasks, have_bound}
use Rattle.hera_top.specs.Scripts.{AreAccepting, none_left, one_more}
use Rattle.hera_top.specs.Sources.{Seen}
use Rattle.outcome_laws.proofs.Evaluated.{AreSound}

-- ---- what a half holds

catalogue_held : (bytes : List ℕ) (rels : List RelDecl) (s : State) → IsHalfOf bytes rels s → IsCatalogue rels
catalogue_held bytes rels s h = h.1.catalogue

state_held : (bytes : List ℕ) (rels : List RelDecl) (s : State) → IsHalfOf bytes rels s → IsState rels s
state_held bytes rels s h =
    subst (IsState rels) (sym h.1.behind) (state_after_all rels h.1.paged (map atoms h.1.deltas) h.1.valid (records_are_commits rels h.1.deltas h.1.records))

-- ---- programs of accepted scripts

has_parts : (rels own more : List RelDecl) → AllHas rels (own ++ more) → AllHas rels own × AllHas rels more
has_parts rels [] more h = (tt, h)
has_parts rels (d ∷ own) more h = let rest = has_parts rels own more h.1 in ((h.0, rest.0), rest.1)

bound_are_sound : AreSound → (hosts : List Host) (rels : List RelDecl) (before now : List Seen) (ps : List Program_tree) → AreHosts hosts → IsCatalogue rels → AreAccepting hosts before now ps → AllHas rels (relations_of ps)
    → AreAllSound (specs_of hosts) (all_bound rels ps)
bound_are_sound sound hosts rels _ _ _ are is none_left has = tt
bound_are_sound sound hosts rels _ _ (p ∷ ps) are is (one_more {before = before} {now = now} first rest) has =
    let parts = has_parts rels p.relations (relations_of ps) has in
    (bound_sound p rels (specs_of hosts) is parts.0 (sound first.script hosts p first.short are first.accepted), bound_are_sound sound hosts rels before now ps are is rest parts.1)

pub sessions_sound : AreSound → (hosts : List Host) (turns : ℕ) (before now : List Seen) (ps : List Program_tree) (files : FileId → List ℕ) (db : Database) → AreHosts hosts → AreAccepting hosts before now ps → Holds files db
    → AllHas db.catalogue (relations_of ps) → AreTasks (specs_of hosts) db.catalogue (tasks_of turns (all_bound db.catalogue ps)) × IsState db.catalogue db.state
sessions_sound sound hosts turns before now ps files db are accepting holds has = (
  are_tasks (specs_of hosts) db.catalogue turns (all_bound db.catalogue ps)
      (bound_are_sound sound hosts db.catalogue before now ps are (catalogue_held _ db.catalogue db.state holds.half) accepting has)
      (have_bound db.catalogue ps),
  state_held _ db.catalogue db.state holds.half,
)
