use Rattle.hera_host.specs.Tables.{host}
use Rattle.hera_host.proofs.Lists.{fits, answered}
use Rattle.hera_host.proofs.table.HostTable.call.Goals as goal

pub answer-requires : goal.answer-requires
answer-requires g c =
    fits (λ f. host f.name f.spec) c.args.self.now.fns.items c.args.self.now.names c.args.id c.index.result.now c.args.arg.now
    c.args.self.now.listed c.requires.number c.index.ensures c.requires.kind

pub returns : goal.returns
returns g c =
    record {
      answer =
          answered (λ f. host f.name f.spec) c.args.self.now.fns.items c.args.self.now.names c.args.id c.index.result.now c.args.arg.now c.answer.result
          c.args.self.now.listed c.requires.number c.index.ensures c.answer.ensures;
    }
