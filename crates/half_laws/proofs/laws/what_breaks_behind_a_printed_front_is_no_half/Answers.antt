use Rattle.half_laws.proofs.Broken.{broken_header, broken_pages}
use Rattle.half_laws.proofs.laws.what_breaks_behind_a_printed_front_is_no_half.Goals as goal

pub returns-clause-header : goal.returns-clause-header
returns-clause-header c = λ v bytes front rest at rels state catalogue e stops h. broken_header v bytes front rest at rels state catalogue e stops h

pub returns-clause-pages : goal.returns-clause-pages
returns-clause-pages c = λ v bytes front paged rest at rels state catalogue valid fit e stops h. broken_pages v bytes front paged rest at rels state catalogue valid fit e stops h
