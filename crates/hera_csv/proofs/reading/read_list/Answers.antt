use Rattle.std.proofs.Common.{◌∙◌, List, ℕ, Bor, [], Some, sym, refl, arith, inl, inr}
use Rattle.csv.specs.Reading.{Reached, strip_bom}
use Rattle.csv.specs.Records.{fields_of}
use Rattle.hera_csv.specs.Records.{is_good, rows_behind}
use Rattle.hera_csv.proofs.Passages.{stripped_short, at_count}
use Rattle.hera_csv.proofs.Goings.{go_on, bad_here, none_there, all_good, all_kept}
use Rattle.hera_csv.proofs.Rows.{rows_more}
use Rattle.hera_csv.proofs.reading.read_list.Goals as goal

pub loop-number-init : goal.loop-number-init
unfolding Reached
loop-number-init c =
    let fr = c.from_reader-reader.ensures in
    let named = c.has_headers.ensures in
    let flexible = c.flexible.ensures in
    record {
      seen = [];
      at = record {
        trim = rw (flexible, named) at fr.trim ∙ c.new.ensures.trim;
        ready = inr (inr (rw (flexible, named) at fr.has_headers, fr.headers));
        config = rw (flexible, named) at fr.config ∙ c.new.ensures.config;
        flexible = rw flexible at fr.flexible;
        left = strip_bom c.args.bytes.now;
        source = fr.source;
        reached = (sym fr.state, refl);
      };
      count = refl;
      fine = refl;
      kept = c.new-rows.ensures;
    }

pub returns-in-Ok-false-clause-refused : goal.returns-in-Ok-false-clause-refused
returns-in-Ok-false-clause-refused c =
    let h = c.loop-number.invariant in
    let r = rw c.in-Ok-false.field-0-test at (c.in-Ok-false.ensures.reads h.at.trim h.at.ready) in
    none_there (λ (b : Bor (List ℕ)). Some b.now) (strip_bom c.args.bytes.now) (is_good c.args.schema.now) (rows_behind c.args.schema.now) c.loop-number.number c.loop-number.rows c.loop-number.reader c.read_byte_record.new.self _ h r c.if-number-eq0.true

pub returns-in-Ok-false-2-clause-good : goal.returns-in-Ok-false-2-clause-good
returns-in-Ok-false-2-clause-good c =
    let h = c.loop-number.invariant in
    let r = rw c.in-Ok-false.field-0-test at (c.in-Ok-false.ensures.reads h.at.trim h.at.ready) in
    all_good (λ (b : Bor (List ℕ)). Some b.now) (strip_bom c.args.bytes.now) (is_good c.args.schema.now) (rows_behind c.args.schema.now) c.loop-number.number c.loop-number.rows c.loop-number.reader c.read_byte_record.new.self _ h r (omega (arith, c.if-number-eq0.false))

pub returns-in-Ok-false-2-clause-rows : goal.returns-in-Ok-false-2-clause-rows
returns-in-Ok-false-2-clause-rows c =
    let h = c.loop-number.invariant in
    let r = rw c.in-Ok-false.field-0-test at (c.in-Ok-false.ensures.reads h.at.trim h.at.ready) in
    all_kept (λ (b : Bor (List ℕ)). Some b.now) (strip_bom c.args.bytes.now) (is_good c.args.schema.now) (rows_behind c.args.schema.now) c.loop-number.number c.loop-number.rows c.loop-number.reader c.read_byte_record.new.self _ h r

pub returns-in-Ok-false-take-clause-refused : goal.returns-in-Ok-false-take-clause-refused
returns-in-Ok-false-take-clause-refused c =
    let h = c.loop-number.invariant in
    let more = c.in-Ok-true.ensures in
    let r = rw c.in-Ok-true.field-0-test at (more.reads h.at.trim h.at.ready) in
    bad_here (λ (b : Bor (List ℕ)). Some b.now) (strip_bom c.args.bytes.now) (is_good c.args.schema.now) (rows_behind c.args.schema.now) c.loop-number.number c.loop-number.rows c.loop-number.reader c.read_byte_record.new.self _ h r (inl (more.ready h.at.trim)) more.flexible (sym c.in-Ok-false-take.ensures.good ∙ c.in-Ok-false-take.field-0-test)

pub loop-number-preserved : goal.loop-number-preserved
loop-number-preserved c =
    let h = c.loop-number.invariant in
    let more = c.in-Ok-true.ensures in
    let r = rw c.in-Ok-true.field-0-test at (more.reads h.at.trim h.at.ready) in
    let f = fields_of c.read_byte_record.new.row in
    go_on (λ (b : Bor (List ℕ)). Some b.now) (strip_bom c.args.bytes.now) (is_good c.args.schema.now) (rows_behind c.args.schema.now) c.loop-number.number c.loop-number.rows _ c.loop-number.reader c.read_byte_record.new.self f h r (inl (more.ready h.at.trim)) more.flexible (sym c.in-Ok-true-take.ensures.good ∙ c.in-Ok-true-take.field-0-test)
    (c.in-Ok-true-take.ensures.rows ∙ rows_more c.args.schema.now c.loop-number.number h.seen f c.loop-number.rows h.count h.kept)

pub unreachable-requires : goal.unreachable-requires
unreachable-requires c =
    let h = c.loop-number.invariant in
    let few = at_count (λ (b : Bor (List ℕ)). Some b.now) (strip_bom c.args.bytes.now) c.loop-number.reader h.seen h.at in
    omega (arith, few, h.count, stripped_short c.args.bytes.now, c.loop-number-test.false)
