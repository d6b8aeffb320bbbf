-- Operations and instructions that are read are those that are written.
use Rattle.std.proofs.Common.{◌≡◌, ℕ, List, ◌++◌, Ok, refl}
use Rattle.hera_meaning.specs.declared.trees.Op.{Op}
use Rattle.hera_meaning.specs.declared.trees.Op.TheVariants as ops
use Rattle.hera_code.specs.declared.instrs.Instr.{Instr}
use Rattle.hera_code.specs.declared.instrs.Instr.TheVariants as instrs
use Rattle.hera_row.proofs.FieldLemmas.{AreBytes}
use Rattle.hera_code_file.specs.Printing.{word, list_bytes, schema_bytes, shape_bytes, const_bytes, sign_bytes, relation_bytes, agg_bytes, op_bytes, instr_bytes}
use Rattle.hera_code_file.specs.Fitting.{IsWord, IsRelation, Each, IsNamed, ShapeFits, ConstFits, AggFits, OpFits, InstrFits}
use Rattle.hera_code_file.specs.Reading.{word_at, schema_at, shape_at, const_at, sign_at, relation_id_at, places_at, aggs_at, op_readers, op_at, instr_readers, instr_at, instrs_at}
use Rattle.hera_code_file.proofs.Laws.{Taken, Law, word_law, Entries, entry_bare, entry_one, entry_two, entry_three, numbered_takes, numbered_again, one_again, two_again, three_again, list_law}
use Rattle.hera_code_file.proofs.Schema_law.{schema_law}
use Rattle.hera_code_file.proofs.Part_laws.{sign_law, relation_id_law, shape_law, const_law, places_law, aggs_law}

op_entries : Entries Op op_bytes OpFits 0 op_readers
op_entries = (
  entry_bare 0 ops.Neg op_bytes OpFits refl tt,
  (
    entry_bare 1 ops.Not op_bytes OpFits refl tt,
    (
      entry_bare 2 ops.Add op_bytes OpFits refl tt,
      (
        entry_bare 3 ops.Sub op_bytes OpFits refl tt,
        (
          entry_bare 4 ops.Mul op_bytes OpFits refl tt,
          (
            entry_bare 5 ops.Div op_bytes OpFits refl tt,
            (
              entry_bare 6 ops.Rem op_bytes OpFits refl tt,
              (
                entry_bare 7 ops.Eq op_bytes OpFits refl tt,
                (
                  entry_bare 8 ops.Ne op_bytes OpFits refl tt,
                  (
                    entry_bare 9 ops.Lt op_bytes OpFits refl tt,
                    (
                      entry_bare 10 ops.Le op_bytes OpFits refl tt,
                      (
                        entry_bare 11 ops.Gt op_bytes OpFits refl tt,
                        (
                          entry_bare 12 ops.Ge op_bytes OpFits refl tt,
                          (
                            entry_bare 13 ops.In op_bytes OpFits refl tt,
                            (
                              entry_two 14 ops.Field schema_at schema_bytes IsNamed word_at word IsWord op_bytes OpFits schema_law word_law (λ a b. refl) (λ a b f g. (f, g)),
                              (
                                entry_one 15 ops.MakeRow schema_at schema_bytes IsNamed op_bytes OpFits schema_law (λ a f. refl) (λ a f. f),
                                (
                                  entry_one 16 ops.MakeRel word_at word IsWord op_bytes OpFits word_law (λ a f. refl) (λ a f. f),
                                  (
                                    entry_two 17 ops.Project schema_at schema_bytes IsNamed places_at (list_bytes word) (Each IsWord) op_bytes OpFits schema_law places_law (λ a b. refl) (λ a b f g. (f, g)),
                                    (
                                      entry_bare 18 ops.Union op_bytes OpFits refl tt,
                                      (
                                        entry_bare 19 ops.Minus op_bytes OpFits refl tt,
                                        (
                                          entry_bare 20 ops.Inter op_bytes OpFits refl tt,
                                          (
                                            entry_two 21 ops.Join schema_at schema_bytes IsNamed schema_at schema_bytes IsNamed op_bytes OpFits schema_law schema_law (λ a b. refl) (λ a b f g. (f, g)),
                                            (
                                              entry_three 22 ops.Group schema_at schema_bytes IsNamed places_at (list_bytes word) (Each IsWord) aggs_at (list_bytes agg_bytes) (Each AggFits) op_bytes OpFits schema_law places_law aggs_law (λ a b c. refl) (λ a b c f g h. (f, g, h)),
                                              (
                                                entry_bare 23 ops.Count op_bytes OpFits refl tt,
                                                (
                                                  entry_bare 24 ops.Empty op_bytes OpFits refl tt,
                                                  (
                                                    entry_two 25 ops.Sum schema_at schema_bytes IsNamed word_at word IsWord op_bytes OpFits schema_law word_law (λ a b. refl) (λ a b f g. (f, g)),
                                                    (
                                                      entry_two 26 ops.Min schema_at schema_bytes IsNamed word_at word IsWord op_bytes OpFits schema_law word_law (λ a b. refl) (λ a b f g. (f, g)),
                                                      (
                                                        entry_two 27 ops.Max schema_at schema_bytes IsNamed word_at word IsWord op_bytes OpFits schema_law word_law (λ a b. refl) (λ a b f g. (f, g)),
                                                        (
                                                          entry_two 28 ops.Atom sign_at sign_bytes (λ s. Unit {0}) relation_id_at relation_bytes IsRelation op_bytes OpFits sign_law relation_id_law (λ a b. refl) (λ a b f g. g),
                                                          (
                                                            entry_two 29 ops.Bulk sign_at sign_bytes (λ s. Unit {0}) relation_id_at relation_bytes IsRelation op_bytes OpFits sign_law relation_id_law (λ a b. refl) (λ a b f g. g),
                                                            (
                                                              entry_one 30 ops.Ins relation_id_at relation_bytes IsRelation op_bytes OpFits relation_id_law (λ a f. refl) (λ a f. f),
                                                              (
                                                                entry_one 31 ops.Del relation_id_at relation_bytes IsRelation op_bytes OpFits relation_id_law (λ a f. refl) (λ a f. f),
                                                                (
                                                                  entry_bare 32 ops.IsFail op_bytes OpFits refl tt,
                                                                  (
                                                                    entry_bare 33 ops.Smash op_bytes OpFits refl tt,
                                                                    (
                                                                      entry_bare 34 ops.Merge op_bytes OpFits refl tt,
                                                                      tt,
                                                                    ),
                                                                  ),
                                                                ),
                                                              ),
                                                            ),
                                                          ),
                                                        ),
                                                      ),
                                                    ),
                                                  ),
                                                ),
                                              ),
                                            ),
                                          ),
                                        ),
                                      ),
                                    ),
                                  ),
                                ),
                              ),
                            ),
                          ),
                        ),
                      ),
                    ),
                  ),
                ),
              ),
            ),
          ),
        ),
      ),
    ),
  ),
)

pub op_law : Law Op op_at op_bytes OpFits
unfolding op_at
op_law = record { takes = takes; again = again }
  where
    takes : (bytes : List ℕ) (op : Op) (rest : List ℕ) → AreBytes bytes → op_at bytes ≡ Ok (op, rest) → Taken bytes (op_bytes op) rest × OpFits op
    takes bytes op rest are e = numbered_takes op_bytes OpFits op_readers op_entries bytes op rest are e

    again : (op : Op) (rest : List ℕ) → OpFits op → op_at (op_bytes op ++ rest) ≡ Ok (op, rest)
    again ops.Neg rest h = numbered_again op_readers 0 rest ops.Neg rest refl refl
    again ops.Not rest h = numbered_again op_readers 1 rest ops.Not rest refl refl
    again ops.Add rest h = numbered_again op_readers 2 rest ops.Add rest refl refl
    again ops.Sub rest h = numbered_again op_readers 3 rest ops.Sub rest refl refl
    again ops.Mul rest h = numbered_again op_readers 4 rest ops.Mul rest refl refl
    again ops.Div rest h = numbered_again op_readers 5 rest ops.Div rest refl refl
    again ops.Rem rest h = numbered_again op_readers 6 rest ops.Rem rest refl refl
    again ops.Eq rest h = numbered_again op_readers 7 rest ops.Eq rest refl refl
    again ops.Ne rest h = numbered_again op_readers 8 rest ops.Ne rest refl refl
    again ops.Lt rest h = numbered_again op_readers 9 rest ops.Lt rest refl refl
    again ops.Le rest h = numbered_again op_readers 10 rest ops.Le rest refl refl
    again ops.Gt rest h = numbered_again op_readers 11 rest ops.Gt rest refl refl
    again ops.Ge rest h = numbered_again op_readers 12 rest ops.Ge rest refl refl
    again ops.In rest h = numbered_again op_readers 13 rest ops.In rest refl refl
    again (ops.Field a b) rest h = numbered_again op_readers 14 ((schema_bytes a ++ word b) ++ rest) (ops.Field a b) rest refl (two_again ops.Field schema_at schema_bytes IsNamed word_at word IsWord schema_law word_law a b rest h.0 h.1)
    again (ops.MakeRow a) rest h = numbered_again op_readers 15 (schema_bytes a ++ rest) (ops.MakeRow a) rest refl (one_again ops.MakeRow schema_at schema_bytes IsNamed schema_law a rest h)
    again (ops.MakeRel a) rest h = numbered_again op_readers 16 (word a ++ rest) (ops.MakeRel a) rest refl (one_again ops.MakeRel word_at word IsWord word_law a rest h)
    again (ops.Project a b) rest h = numbered_again op_readers 17 ((schema_bytes a ++ (list_bytes word) b) ++ rest) (ops.Project a b) rest refl (two_again ops.Project schema_at schema_bytes IsNamed places_at (list_bytes word) (Each IsWord) schema_law places_law a b rest h.0 h.1)
    again ops.Union rest h = numbered_again op_readers 18 rest ops.Union rest refl refl
    again ops.Minus rest h = numbered_again op_readers 19 rest ops.Minus rest refl refl
    again ops.Inter rest h = numbered_again op_readers 20 rest ops.Inter rest refl refl
    again (ops.Join a b) rest h = numbered_again op_readers 21 ((schema_bytes a ++ schema_bytes b) ++ rest) (ops.Join a b) rest refl (two_again ops.Join schema_at schema_bytes IsNamed schema_at schema_bytes IsNamed schema_law schema_law a b rest h.0 h.1)
    again (ops.Group a b c) rest h = numbered_again op_readers 22 ((schema_bytes a ++ ((list_bytes word) b ++ (list_bytes agg_bytes) c)) ++ rest) (ops.Group a b c) rest refl (three_again ops.Group schema_at schema_bytes IsNamed places_at (list_bytes word) (Each IsWord) aggs_at (list_bytes agg_bytes) (Each AggFits) schema_law places_law aggs_law a b c rest h.0 h.1 h.2)
    again ops.Count rest h = numbered_again op_readers 23 rest ops.Count rest refl refl
    again ops.Empty rest h = numbered_again op_readers 24 rest ops.Empty rest refl refl
    again (ops.Sum a b) rest h = numbered_again op_readers 25 ((schema_bytes a ++ word b) ++ rest) (ops.Sum a b) rest refl (two_again ops.Sum schema_at schema_bytes IsNamed word_at word IsWord schema_law word_law a b rest h.0 h.1)
    again (ops.Min a b) rest h = numbered_again op_readers 26 ((schema_bytes a ++ word b) ++ rest) (ops.Min a b) rest refl (two_again ops.Min schema_at schema_bytes IsNamed word_at word IsWord schema_law word_law a b rest h.0 h.1)
    again (ops.Max a b) rest h = numbered_again op_readers 27 ((schema_bytes a ++ word b) ++ rest) (ops.Max a b) rest refl (two_again ops.Max schema_at schema_bytes IsNamed word_at word IsWord schema_law word_law a b rest h.0 h.1)
    again (ops.Atom a b) rest h = numbered_again op_readers 28 ((sign_bytes a ++ relation_bytes b) ++ rest) (ops.Atom a b) rest refl (two_again ops.Atom sign_at sign_bytes (λ s. Unit {0}) relation_id_at relation_bytes IsRelation sign_law relation_id_law a b rest tt h)
    again (ops.Bulk a b) rest h = numbered_again op_readers 29 ((sign_bytes a ++ relation_bytes b) ++ rest) (ops.Bulk a b) rest refl (two_again ops.Bulk sign_at sign_bytes (λ s. Unit {0}) relation_id_at relation_bytes IsRelation sign_law relation_id_law a b rest tt h)
    again (ops.Ins a) rest h = numbered_again op_readers 30 (relation_bytes a ++ rest) (ops.Ins a) rest refl (one_again ops.Ins relation_id_at relation_bytes IsRelation relation_id_law a rest h)
    again (ops.Del a) rest h = numbered_again op_readers 31 (relation_bytes a ++ rest) (ops.Del a) rest refl (one_again ops.Del relation_id_at relation_bytes IsRelation relation_id_law a rest h)
    again ops.IsFail rest h = numbered_again op_readers 32 rest ops.IsFail rest refl refl
    again ops.Smash rest h = numbered_again op_readers 33 rest ops.Smash rest refl refl
    again ops.Merge rest h = numbered_again op_readers 34 rest ops.Merge rest refl refl

instr_entries : Entries Instr instr_bytes InstrFits 0 instr_readers
instr_entries = (
  entry_one 0 instrs.Push const_at const_bytes ConstFits instr_bytes InstrFits const_law (λ a f. refl) (λ a f. f),
  (
    entry_one 1 instrs.Load word_at word IsWord instr_bytes InstrFits word_law (λ a f. refl) (λ a f. f),
    (
      entry_one 2 instrs.Store word_at word IsWord instr_bytes InstrFits word_law (λ a f. refl) (λ a f. f),
      (
        entry_one 3 instrs.Rel relation_id_at relation_bytes IsRelation instr_bytes InstrFits relation_id_law (λ a f. refl) (λ a f. f),
        (
          entry_two 4 instrs.Prim op_at op_bytes OpFits word_at word IsWord instr_bytes InstrFits op_law word_law (λ a b. refl) (λ a b f g. (f, g)),
          (
            entry_one 5 instrs.Host word_at word IsWord instr_bytes InstrFits word_law (λ a f. refl) (λ a f. f),
            (
              entry_one 6 instrs.Jump word_at word IsWord instr_bytes InstrFits word_law (λ a f. refl) (λ a f. f),
              (
                entry_one 7 instrs.Unless word_at word IsWord instr_bytes InstrFits word_law (λ a f. refl) (λ a f. f),
                (
                  entry_one 8 instrs.Back word_at word IsWord instr_bytes InstrFits word_law (λ a f. refl) (λ a f. f),
                  (
                    entry_one 9 instrs.Enter word_at word IsWord instr_bytes InstrFits word_law (λ a f. refl) (λ a f. f),
                    (
                      entry_bare 10 instrs.Leave instr_bytes InstrFits refl tt,
                      (
                        entry_bare 11 instrs.Walk instr_bytes InstrFits refl tt,
                        (
                          entry_two 12 instrs.Next word_at word IsWord word_at word IsWord instr_bytes InstrFits word_law word_law (λ a b. refl) (λ a b f g. (f, g)),
                          (
                            entry_bare 13 instrs.Keep instr_bytes InstrFits refl tt,
                            (
                              entry_bare 14 instrs.Gather instr_bytes InstrFits refl tt,
                              (
                                entry_bare 15 instrs.Yield instr_bytes InstrFits refl tt,
                                (
                                  entry_bare 16 instrs.Drop instr_bytes InstrFits refl tt,
                                  (
                                    entry_one 17 instrs.Call word_at word IsWord instr_bytes InstrFits word_law (λ a f. refl) (λ a f. f),
                                    (
                                      entry_bare 18 instrs.Ret instr_bytes InstrFits refl tt,
                                      (
                                        entry_bare 19 instrs.RetVal instr_bytes InstrFits refl tt,
                                        (
                                          entry_one 20 instrs.Print shape_at shape_bytes ShapeFits instr_bytes InstrFits shape_law (λ a f. refl) (λ a f. f),
                                          (
                                            entry_one 21 instrs.Apply word_at word IsWord instr_bytes InstrFits word_law (λ a f. refl) (λ a f. f),
                                            (
                                              entry_bare 22 instrs.Commit instr_bytes InstrFits refl tt,
                                              (
                                                entry_bare 23 instrs.Rollback instr_bytes InstrFits refl tt,
                                                (
                                                  entry_one 24 instrs.Assert word_at word IsWord instr_bytes InstrFits word_law (λ a f. refl) (λ a f. f),
                                                  (
                                                    entry_bare 25 instrs.Halt instr_bytes InstrFits refl tt,
                                                    tt,
                                                  ),
                                                ),
                                              ),
                                            ),
                                          ),
                                        ),
                                      ),
                                    ),
                                  ),
                                ),
                              ),
                            ),
                          ),
                        ),
                      ),
                    ),
                  ),
                ),
              ),
            ),
          ),
        ),
      ),
    ),
  ),
)

pub instr_law : Law Instr instr_at instr_bytes InstrFits
unfolding instr_at
instr_law = record { takes = takes; again = again }
  where
    takes : (bytes : List ℕ) (i : Instr) (rest : List ℕ) → AreBytes bytes → instr_at bytes ≡ Ok (i, rest) → Taken bytes (instr_bytes i) rest × InstrFits i
    takes bytes i rest are e = numbered_takes instr_bytes InstrFits instr_readers instr_entries bytes i rest are e

    again : (i : Instr) (rest : List ℕ) → InstrFits i → instr_at (instr_bytes i ++ rest) ≡ Ok (i, rest)
    again (instrs.Push a) rest h = numbered_again instr_readers 0 (const_bytes a ++ rest) (instrs.Push a) rest refl (one_again instrs.Push const_at const_bytes ConstFits const_law a rest h)
    again (instrs.Load a) rest h = numbered_again instr_readers 1 (word a ++ rest) (instrs.Load a) rest refl (one_again instrs.Load word_at word IsWord word_law a rest h)
    again (instrs.Store a) rest h = numbered_again instr_readers 2 (word a ++ rest) (instrs.Store a) rest refl (one_again instrs.Store word_at word IsWord word_law a rest h)
    again (instrs.Rel a) rest h = numbered_again instr_readers 3 (relation_bytes a ++ rest) (instrs.Rel a) rest refl (one_again instrs.Rel relation_id_at relation_bytes IsRelation relation_id_law a rest h)
    again (instrs.Prim a b) rest h = numbered_again instr_readers 4 ((op_bytes a ++ word b) ++ rest) (instrs.Prim a b) rest refl (two_again instrs.Prim op_at op_bytes OpFits word_at word IsWord op_law word_law a b rest h.0 h.1)
    again (instrs.Host a) rest h = numbered_again instr_readers 5 (word a ++ rest) (instrs.Host a) rest refl (one_again instrs.Host word_at word IsWord word_law a rest h)
    again (instrs.Jump a) rest h = numbered_again instr_readers 6 (word a ++ rest) (instrs.Jump a) rest refl (one_again instrs.Jump word_at word IsWord word_law a rest h)
    again (instrs.Unless a) rest h = numbered_again instr_readers 7 (word a ++ rest) (instrs.Unless a) rest refl (one_again instrs.Unless word_at word IsWord word_law a rest h)
    again (instrs.Back a) rest h = numbered_again instr_readers 8 (word a ++ rest) (instrs.Back a) rest refl (one_again instrs.Back word_at word IsWord word_law a rest h)
    again (instrs.Enter a) rest h = numbered_again instr_readers 9 (word a ++ rest) (instrs.Enter a) rest refl (one_again instrs.Enter word_at word IsWord word_law a rest h)
    again instrs.Leave rest h = numbered_again instr_readers 10 rest instrs.Leave rest refl refl
    again instrs.Walk rest h = numbered_again instr_readers 11 rest instrs.Walk rest refl refl
    again (instrs.Next a b) rest h = numbered_again instr_readers 12 ((word a ++ word b) ++ rest) (instrs.Next a b) rest refl (two_again instrs.Next word_at word IsWord word_at word IsWord word_law word_law a b rest h.0 h.1)
    again instrs.Keep rest h = numbered_again instr_readers 13 rest instrs.Keep rest refl refl
    again instrs.Gather rest h = numbered_again instr_readers 14 rest instrs.Gather rest refl refl
    again instrs.Yield rest h = numbered_again instr_readers 15 rest instrs.Yield rest refl refl
    again instrs.Drop rest h = numbered_again instr_readers 16 rest instrs.Drop rest refl refl
    again (instrs.Call a) rest h = numbered_again instr_readers 17 (word a ++ rest) (instrs.Call a) rest refl (one_again instrs.Call word_at word IsWord word_law a rest h)
    again instrs.Ret rest h = numbered_again instr_readers 18 rest instrs.Ret rest refl refl
    again instrs.RetVal rest h = numbered_again instr_readers 19 rest instrs.RetVal rest refl refl
    again (instrs.Print a) rest h = numbered_again instr_readers 20 (shape_bytes a ++ rest) (instrs.Print a) rest refl (one_again instrs.Print shape_at shape_bytes ShapeFits shape_law a rest h)
    again (instrs.Apply a) rest h = numbered_again instr_readers 21 (word a ++ rest) (instrs.Apply a) rest refl (one_again instrs.Apply word_at word IsWord word_law a rest h)
    again instrs.Commit rest h = numbered_again instr_readers 22 rest instrs.Commit rest refl refl
    again instrs.Rollback rest h = numbered_again instr_readers 23 rest instrs.Rollback rest refl refl
    again (instrs.Assert a) rest h = numbered_again instr_readers 24 (word a ++ rest) (instrs.Assert a) rest refl (one_again instrs.Assert word_at word IsWord word_law a rest h)
    again instrs.Halt rest h = numbered_again instr_readers 25 rest instrs.Halt rest refl refl

pub instrs_law : Law (List Instr) instrs_at (list_bytes instr_bytes) (Each InstrFits)
unfolding instrs_at
instrs_law = list_law instr_at instr_bytes InstrFits instr_law
