use Rattle.std.proofs.Common.{◌≡◌, get_or}
use Rattle.hera_rules.proofs.Places.{schema_at}
use Rattle.hera_rules.proofs.env.Relations.schema.Goals as goal

pub returns : goal.returns
returns c =
    let view = c.self.view_is in
    let item = c.index.ensures in
    let here : c.index.result.now ≡ get_or c.args.self.now c.args.rel.0 c.index.result.now = cc in
    schema_at _ _ _ c.requires here
