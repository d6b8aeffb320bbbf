use Rattle.std.proofs.Common.{rules, ◌≡◌, ◌<◌, ◌≤◌, ◌+◌, ◌/◌, ◌*◌, ◌∙◌, List, ℕ, Option, Some, None, IfSome, sym, ap, subst, length, take, drop, arith}
use Rattle.rel_pages.specs.declared.starts.RowStart.{RowStart}
use Rattle.rel_pages.specs.Parts.{part_bytes}
use Rattle.rel_pages.specs.Rels.{rows_counted}
use Rattle.rel_pages.specs.Starts.{page_of, IsStart}
use Rattle.rel_pages.proofs.Nears.{page_in}
use Rattle.rel_pages.proofs.Gathered.{start_there}
use Rattle.rel_pages.proofs.starts.start_in.Goals as goal

pub row_count-requires : goal.row_count-requires
row_count-requires c =
    let pages : List ℕ = part_bytes c.args.bytes.now c.args.part in
    let own : c.split_at.result.0.now ≡ pages = c.split_at.ensures.front ∙ ap (take c.args.part.len) c.rest_at.ensures in
    let number : ℕ = c.in_ok-offset.offset / c.args.page in
    let count : length c.split_at.result.0.now / c.args.page ≡ length pages / c.args.page = ap (λ (x : List ℕ). length x / c.args.page) own in
    let lt : number < length pages / c.args.page = omega (arith, c.if-number-pages.false, count) in
    let here = page_in c.args.schema.now c.args.page (length pages / c.args.page) number pages lt c.requires.paged.pages in
    let one : c.split_at-3.result.0.now ≡ page_of c.args.page pages number = c.split_at-3.ensures.front ∙ ap (take c.args.page) c.split_at-2.ensures.back ∙ ap (λ (x : List ℕ). take c.args.page (drop (number * c.args.page) x)) own in
    subst (λ (x : List ℕ). 4 ≤ length x) (sym one) here.one.head

weaker : (o : Option RowStart) (P Q : RowStart → Type 0) → ((s : RowStart) → P s → Q s) → IfSome o P → IfSome o Q
weaker None P Q f h = tt
weaker (Some s) P Q f h = f s h

pub returns : goal.returns
returns c =
    let pages : List ℕ = part_bytes c.args.bytes.now c.args.part in
    let own : c.split_at.result.0.now ≡ pages = c.split_at.ensures.front ∙ ap (take c.args.part.len) c.rest_at.ensures in
    let number : ℕ = c.in_ok-offset.offset / c.args.page in
    let count : length c.split_at.result.0.now / c.args.page ≡ length pages / c.args.page = ap (λ (x : List ℕ). length x / c.args.page) own in
    let lt : number < length pages / c.args.page = omega (arith, c.if-number-pages.false, count) in
    let one : c.split_at-3.result.0.now ≡ page_of c.args.page pages number = c.split_at-3.ensures.front ∙ ap (take c.args.page) c.split_at-2.ensures.back ∙ ap (λ (x : List ℕ). take c.args.page (drop (number * c.args.page) x)) own in
    let place : c.args.read.rows ≡ c.args.part.at + number * c.args.page + 4 = omega (arith, c.in_ok-checked_sub.ensures, c.in_ok-offset.ensures, c.if-number-page.false) in
    let few : c.args.read.row < rows_counted (page_of c.args.page pages number) = subst (λ (n : ℕ). c.args.read.row < n) (c.row_count.ensures ∙ ap rows_counted one) c.if-read-row_count.false in
    let at : c.in_ok-at.at ≡ c.args.read.at + 4 = omega (arith, c.in_ok-at.ensures) in
    let same : c.args.read.rel ≡ c.args.rel.0 = omega (arith, c.if-read-rel.false) in
    let start = start_there c.args.schema.now c.args.page c.args.bytes.now c.args.part c.args.read number (λ i. search rules) c.requires.paged lt place few (c.requires.read same) in
    weaker c.start_of.result (λ (s : RowStart). s ≡ record { page = number; row = c.args.read.row; at = c.in_ok-at.at }) (IsStart c.args.schema.now c.args.page pages)
    (λ s e. subst (IsStart c.args.schema.now c.args.page pages) (sym e) (subst (λ (n : ℕ). IsStart c.args.schema.now c.args.page pages (record { page = number; row = c.args.read.row; at = n })) (sym at) start))
    c.start_of.ensures
