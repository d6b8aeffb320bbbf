use Rattle.std.proofs.Common.{◌≡◌, ◌∙◌, get_or}
use Rattle.hera_host.proofs.Lists.{gives_is}
use Rattle.hera_host.proofs.names.HostNames.result.Goals as goal

pub returns : goal.returns
returns c =
    let view = c.self.view_is in
    let item = c.index.ensures in
    let here : c.index.result.now ≡ get_or c.args.self.now c.args.id c.index.result.now = cc in
    c.result.ensures ∙ gives_is _ _ _ c.requires here
