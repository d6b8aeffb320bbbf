-- What contracts see of a machine at work, whatever the lifetime of its relations is named.
use Rattle.hera_steps.specs.declared.running.Running.TheInside.{Inside}
use Rattle.hera_steps.specs.Working.{Work}

abbrev pub the_view : Inside → Work
the_view r = record {
  at = r.at;
  operands = r.operands.items;
  spare = r.operands.spare;
  locals = r.locals;
  walks = r.walks;
  relations = r.changes.catalogue;
  layers = r.changes.layers;
  tip = r.changes.tip;
  own = r.own;
  callers = r.callers;
  turns = r.turns;
}
