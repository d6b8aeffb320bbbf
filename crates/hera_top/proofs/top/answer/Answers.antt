use Rattle.std.proofs.Common.{sym, refl, subst, rules}
use Rattle.hera_outcome.specs.Passages.{passage}
use Rattle.hera_words.specs.declared.command.Command.{Command}
use Rattle.hera_words.specs.declared.command.Command.TheVariants.{Pack, Exec, Drill, Dump, Checkpoint, Import, Export, Guard, Weave}
use Rattle.hera_top.specs.Commands.{ReadsScript, IsAnswered}
use Rattle.hera_top.specs.Sources.{seen_of}
use Rattle.hera_top.proofs.Answering.{has_folder, one_source, reads_files, one_file, import_reads_files, one_pack, one_exec, reads_some, unread_answered, read_answered}
use Rattle.hera_top.proofs.Weaving.{same_weave, none_to_weave}
use Rattle.hera_top.proofs.Guarding.{two_sources, guard_reads_files}
use Rattle.hera_top.proofs.top.answer.Goals as goal

pub returns-in-Drill : goal.returns-in-Drill
returns-in-Drill g c =
    record {
      answered = unread_answered c.args.hosts.now.names c.args.name.now (Drill c.in-Drill.rows) c.args.command (seen_of g.S.Source.left g.S.Source.faults c.args.sources.now.items) c.drill.result (passage g.W.Output g.W.Outside c.args.outside.now c.drill.new.outside) (sym c.in-Drill.is) c.drill.ensures.answered;
      unread = λ none. refl;
      apart = λ none. c.drill.ensures.apart;
    }

pub returns-in-Dump : goal.returns-in-Dump
returns-in-Dump g c =
    record {
      answered = unread_answered c.args.hosts.now.names c.args.name.now Dump c.args.command (seen_of g.S.Source.left g.S.Source.faults c.args.sources.now.items) c.dump.result (passage g.W.Output g.W.Outside c.args.outside.now c.dump.new.outside) (sym c.in-Dump.is) c.dump.ensures.answered;
      unread = λ none. refl;
      apart = λ none. absurd (has_folder Dump c.args.command (sym c.in-Dump.is) refl none);
    }

pub returns-in-Checkpoint : goal.returns-in-Checkpoint
returns-in-Checkpoint g c =
    record {
      answered = unread_answered c.args.hosts.now.names c.args.name.now Checkpoint c.args.command (seen_of g.S.Source.left g.S.Source.faults c.args.sources.now.items) c.checkpoint.result (passage g.W.Output g.W.Outside c.args.outside.now c.checkpoint.new.outside) (sym c.in-Checkpoint.is) c.checkpoint.ensures.answered;
      unread = λ none. refl;
      apart = λ none. absurd (has_folder Checkpoint c.args.command (sym c.in-Checkpoint.is) refl none);
    }

pub returns-in-Export : goal.returns-in-Export
returns-in-Export g c =
    record {
      answered = unread_answered c.args.hosts.now.names c.args.name.now Export c.args.command (seen_of g.S.Source.left g.S.Source.faults c.args.sources.now.items) c.export.result (passage g.W.Output g.W.Outside c.args.outside.now c.export.new.outside) (sym c.in-Export.is) c.export.ensures.answered;
      unread = λ none. refl;
      apart = λ none. absurd (has_folder Export c.args.command (sym c.in-Export.is) refl none);
    }

pub returns-in-Import : goal.returns-in-Import
returns-in-Import g c =
    record {
      answered = read_answered g.S.Source.left g.S.Source.faults c.args.sources.now.items c.index_mut-in-Import.result.now c.import_source.new.source c.args.hosts.now.names c.args.name.now Import c.args.command c.import_source.result
          (passage g.W.Output g.W.Outside c.args.outside.now c.import_source.new.outside) (one_file c.args.command _ (sym c.in-Import.is) c.requires.sources) c.index_mut-in-Import.ensures.value (sym c.in-Import.is) (c.import_source.ensures.answered c.args.hosts.now.names);
      unread = λ none. absurd (import_reads_files c.args.command (sym c.in-Import.is) none);
      apart = λ none. absurd (has_folder Import c.args.command (sym c.in-Import.is) refl none);
    }

pub returns-in-Pack : goal.returns-in-Pack
returns-in-Pack g c =
    record {
      answered = read_answered g.S.Source.left g.S.Source.faults c.args.sources.now.items c.index_mut.result.now c.pack_source.new.source c.args.hosts.now.names c.args.name.now Pack c.args.command c.pack_source.result
          (passage g.W.Output g.W.Outside c.args.outside.now c.pack_source.new.outside) (one_pack c.args.command _ (sym c.in-Pack.is) c.requires.sources) c.index_mut.ensures.value (sym c.in-Pack.is) (c.pack_source.ensures.answered c.args.name.now);
      unread = λ none. absurd (reads_some Pack c.args.command (sym c.in-Pack.is) refl none);
      apart = λ none. c.pack_source.ensures.apart;
    }

pub returns-in-Exec : goal.returns-in-Exec
returns-in-Exec g c =
    record {
      answered = read_answered g.S.Source.left g.S.Source.faults c.args.sources.now.items c.index_mut-in-Exec.result.now c.exec_source.new.source c.args.hosts.now.names c.args.name.now (Exec c.in-Exec.turns) c.args.command c.exec_source.result
          (passage g.W.Output g.W.Outside c.args.outside.now c.exec_source.new.outside) (one_exec c.in-Exec.turns c.args.command _ (sym c.in-Exec.is) c.requires.sources) c.index_mut-in-Exec.ensures.value (sym c.in-Exec.is) (c.exec_source.ensures.answered c.args.name.now);
      unread = λ none. absurd (reads_some (Exec c.in-Exec.turns) c.args.command (sym c.in-Exec.is) refl none);
      apart = λ none. c.exec_source.ensures.apart;
    }

pub returns-in-Check : goal.returns-in-Check
returns-in-Check g c =
    let reads : ReadsScript c.args.command = search rules in
    record {
      answered = read_answered g.S.Source.left g.S.Source.faults c.args.sources.now.items c.index_mut-in-Check.result.now c.answer_source.new.source c.args.hosts.now.names c.args.name.now c.args.command c.args.command c.answer_source.result
          (passage g.W.Output g.W.Outside c.args.outside.now c.answer_source.new.outside) (one_source c.args.command _ reads c.requires.sources) c.index_mut-in-Check.ensures.value refl (c.answer_source.ensures.answered c.args.name.now);
      unread = λ none. absurd (reads_files c.args.command reads none);
      apart = c.answer_source.ensures.apart;
    }

pub guard_sources-requires : goal.guard_sources-requires
guard_sources-requires g c = record { both = two_sources c.args.command c.in-Guard.turns _ c.in-Guard.is c.requires.sources }

pub returns-in-Guard : goal.returns-in-Guard
returns-in-Guard g c =
    record {
      answered = subst (λ (x : Command). IsAnswered c.args.hosts.now.names c.args.name.now x (seen_of g.S.Source.left g.S.Source.faults c.args.sources.now.items) (seen_of g.S.Source.left g.S.Source.faults c.guard_sources.new.sources.items) c.guard_sources.result
          (passage g.W.Output g.W.Outside c.args.outside.now c.guard_sources.new.outside)) (sym c.in-Guard.is) (c.guard_sources.ensures.answered c.args.name.now);
      unread = λ none. absurd (guard_reads_files c.args.command c.in-Guard.turns c.in-Guard.is none);
      apart = λ none. absurd (has_folder (Guard c.in-Guard.turns) c.args.command (sym c.in-Guard.is) refl none);
    }

pub returns-in-Weave : goal.returns-in-Weave
returns-in-Weave g c =
    record {
      answered = same_weave c.args.hosts.now.names c.args.name.now c.in-Weave.turns c.in-Weave.order _ c.args.command _ _ _ _ (sym c.in-Weave.is) (λ files. c.weave_sources.ensures.answered c.args.name.now files);
      unread = λ none. c.weave_sources.ensures.unread (none_to_weave c.in-Weave.turns c.in-Weave.order _ c.args.command _ (sym c.in-Weave.is) none c.requires.sources);
      apart = λ none. absurd (has_folder (Weave c.in-Weave.turns c.in-Weave.order _) c.args.command (sym c.in-Weave.is) refl none);
    }
