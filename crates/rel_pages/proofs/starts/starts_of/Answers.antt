use Rattle.std.proofs.Common.{All, Vec, refl}
use Rattle.std.specs.Global.{Global}
use Rattle.std.proofs.lemmas.Result.{IfOk-weaker}
use Rattle.rel_pages.specs.declared.starts.RowStart.{RowStart}
use Rattle.rel_pages.specs.Parts.{part_bytes}
use Rattle.rel_pages.specs.Starts.{IsStart, AreStartsOf}
use Rattle.rel_pages.proofs.Halves.{part_here}
use Rattle.rel_pages.proofs.Beginnings.{part_there, of_part}
use Rattle.rel_pages.proofs.Gathered.{own_read}
use Rattle.rel_pages.proofs.starts.starts_of.Goals as goal

pub starts_in-requires-clause-within : goal.starts_in-requires-clause-within
starts_in-requires-clause-within c =
    let here = part_here c.args.page c.args.catalogue.now c.args.parts.now c.args.bytes.now c.args.rel.0 c.decl.result.now c.in-Some.part.now c.requires.parts c.decl.ensures.decl (part_there c.args.parts.now c.args.parts.now c.args.rel.0 c.in-Some.part.now refl c.in-Some.ensures.lookup.0 c.in-Some.ensures.lookup.1) in
    here.within

pub starts_in-requires-clause-paged : goal.starts_in-requires-clause-paged
starts_in-requires-clause-paged c =
    let here = part_here c.args.page c.args.catalogue.now c.args.parts.now c.args.bytes.now c.args.rel.0 c.decl.result.now c.in-Some.part.now c.requires.parts c.decl.ensures.decl (part_there c.args.parts.now c.args.parts.now c.args.rel.0 c.in-Some.part.now refl c.in-Some.ensures.lookup.0 c.in-Some.ensures.lookup.1) in
    here.paged

pub starts_in-requires-clause-read : goal.starts_in-requires-clause-read
starts_in-requires-clause-read c = own_read c.args.catalogue.now c.args.rel.0 c.args.bytes.now c.decl.result.now c.args.read.now c.decl.ensures.decl c.requires.read

pub returns-in-Some : goal.returns-in-Some
returns-in-Some c =
    let listed = part_there c.args.parts.now c.args.parts.now c.args.rel.0 c.in-Some.part.now refl c.in-Some.ensures.lookup.0 c.in-Some.ensures.lookup.1 in
    IfOk-weaker c.starts_in.result (λ (starts : Vec RowStart Global). All (IsStart c.decl.result.now.schema c.args.page (part_bytes c.args.bytes.now c.in-Some.part.now)) starts.items) (λ (starts : Vec RowStart Global). AreStartsOf c.args.page c.args.catalogue.now c.args.parts.now c.args.bytes.now c.args.rel.0 starts.items)
    (λ starts all. of_part c.args.page c.args.catalogue.now c.args.parts.now c.args.bytes.now c.args.rel.0 c.decl.result.now c.in-Some.part.now starts.items c.decl.ensures.decl listed all)
    c.starts_in.ensures
