-- What comes of the bytes of a code file: where they are no file, where its code is no typed code, and else its run.
use Rattle.std.specs.Prelude.{◌≡◌, ℕ, ◌+◌, ◌*◌, List, length}
use Rattle.hera_meaning.specs.declared.schemas.RelDecl.{RelDecl}
use Rattle.hera_meaning.specs.Hosts.{Hosts}
use Rattle.hera_meaning.specs.Run.{Report}
use Rattle.hera_code.specs.declared.instrs.Code.{Code}
use Rattle.hera_code.specs.Machine.{ended}
use Rattle.hera_code.specs.Reached.{over, code_at}
use Rattle.rel_pages.specs.Stored.{empty_state}
use Rattle.hera_code_file.specs.Printing.{File}
use Rattle.hera_code_file.specs.Files.{IsBadAt}
use Rattle.hera_verify.specs.Rejected.{IsVerified, IsRejectedAt}
use Rattle.hera_outcome.specs.Outcomes.{Outcome, refused, ran}
use Rattle.hera_outcome.specs.declared.refusal.Refusal.TheVariants.{BadCode, Rejected}
use Rattle.hera_packed.specs.declared.opening.TheConstants.{CODE_LIMIT}
use Rattle.hera_packed.specs.Packed.{code_in, notes_in, IsFileOf}

-- the most bytes of a code file
abbrev pub code_limit : ℕ
code_limit = CODE_LIMIT

-- with so many turns, on its relations without rows, the code comes to these events and this end, within as many
-- instructions as a program's code
abbrev pub RunsAs : Code → List RelDecl → Hosts → (turns : ℕ) → Report → Type 0
RunsAs code rels hosts turns report =
    code_at code rels (empty_state rels) hosts turns ((turns + 1) * (turns + 1) * length code.instrs) ≡ over report.events (ended report.finish)

-- what a run of a code file with so many turns comes to
pub data ExecutesTo (hosts : Hosts) (turns : ℕ) (bytes : List ℕ) : Outcome → Type 0 where
  is_bad : {at : ℕ} → IsBadAt bytes at → ExecutesTo hosts turns bytes (refused (BadCode at))
  is_rejected : {file : File} {at : ℕ} → IsFileOf bytes file → IsRejectedAt (code_in file) file.relations hosts (notes_in file) at → ExecutesTo hosts turns bytes (refused (Rejected at))
  is_run : {file : File} {report : Report} → IsFileOf bytes file → IsVerified (code_in file) file.relations hosts (notes_in file)
      → RunsAs (code_in file) file.relations hosts turns report → ExecutesTo hosts turns bytes (ran report)
