use Rattle.std.proofs.Common.{◌<◌, ◌+◌, ◌*◌, [], ◌∷◌, ◌++◌, length}
use Rattle.std.specs.List.{flat_map}
use Rattle.hera_syntax.specs.Grammar.{phrase}
use Rattle.hera_syntax.specs.Grammar as phrases
use Rattle.hera_syntax.specs.Outline.{args_row, atom_outline, atoms_row, binding_outline, bindings_row, expr_outline, line_outline, lines_row, more_of, node, operand_outline, production_of, tail_row}
use Rattle.hera_parser_exprs.specs.Reading.{Gives}
use Rattle.hera_parser_exprs.proofs.Levels.{height}
use Rattle.hera_parser_exprs.proofs.parser.Parser.+expr.Given as goal

abbrev pub decreases-level : goal.decreases-level
decreases-level l = 64 * length l.self.now + (25 + 3 * height l.level)

abbrev pub decreases-chain : goal.decreases-chain
decreases-chain l = 64 * length l.self.now + (24 + 3 * height l.level)

abbrev pub decreases-comparison : goal.decreases-comparison
decreases-comparison l = 64 * length l.self.now + 36

abbrev pub decreases-tail : goal.decreases-tail
decreases-tail l = 64 * length l.self.now + 0

abbrev pub decreases-operand : goal.decreases-operand
decreases-operand l = 64 * length l.self.now + (23 + 3 * height l.level)

abbrev pub decreases-prefix_level : goal.decreases-prefix_level
decreases-prefix_level l = 64 * length l.self.now + 22

abbrev pub decreases-post : goal.decreases-post
decreases-post l = 64 * length l.self.now + 21

abbrev pub decreases-prime : goal.decreases-prime
decreases-prime l = 64 * length l.self.now + 20

abbrev pub decreases-paren : goal.decreases-paren
decreases-paren l = 64 * length l.self.now + 1

abbrev pub decreases-row : goal.decreases-row
decreases-row l = 64 * length l.self.now + 1

abbrev pub decreases-delta : goal.decreases-delta
decreases-delta l = 64 * length l.self.now + 1

abbrev pub decreases-rows : goal.decreases-rows
decreases-rows l = 64 * length l.self.now + 1

abbrev pub decreases-walk : goal.decreases-walk
decreases-walk l = 64 * length l.self.now + 1

abbrev pub decreases-opened : goal.decreases-opened
decreases-opened l = 64 * length l.self.now + 0

abbrev pub decreases-project : goal.decreases-project
decreases-project l = 64 * length l.self.now + 1

abbrev pub decreases-rename : goal.decreases-rename
decreases-rename l = 64 * length l.self.now + 1

abbrev pub decreases-pair : goal.decreases-pair
decreases-pair l = 64 * length l.self.now + 1

abbrev pub decreases-group : goal.decreases-group
decreases-group l = 64 * length l.self.now + 1

abbrev pub decreases-measure : goal.decreases-measure
decreases-measure l = 64 * length l.self.now + 1

abbrev pub decreases-fold : goal.decreases-fold
decreases-fold l = 64 * length l.self.now + 1

abbrev pub decreases-bulk : goal.decreases-bulk
decreases-bulk l = 64 * length l.self.now + 1

abbrev pub decreases-part : goal.decreases-part
decreases-part l = 64 * length l.self.now + 1

abbrev pub decreases-name_or_call : goal.decreases-name_or_call
decreases-name_or_call l = 64 * length l.self.now + 1

abbrev pub decreases-args : goal.decreases-args
decreases-args l = 64 * length l.self.now + 47

abbrev pub decreases-bindings : goal.decreases-bindings
decreases-bindings l = 64 * length l.self.now + 4

abbrev pub decreases-atoms : goal.decreases-atoms
decreases-atoms l = 64 * length l.self.now + 4

abbrev pub decreases-lines : goal.decreases-lines
decreases-lines l = 64 * length l.self.now + 4

abbrev pub decreases-binding : goal.decreases-binding
decreases-binding l = 64 * length l.self.now + 3

abbrev pub decreases-atom : goal.decreases-atom
decreases-atom l = 64 * length l.self.now + 3

abbrev pub decreases-line : goal.decreases-line
decreases-line l = 64 * length l.self.now + 3

abbrev pub invariant-chain-rest : goal.invariant-chain-rest
invariant-chain-rest l = record {
  reads : Gives (phrase (production_of l.level) ∷ []) l.fn.self (node (production_of l.level) 0 ++ operand_outline l.items.first ++ flat_map (tail_row l.level) l.items.rest.items) (phrase (more_of l.level) ∷ []) l.self;
  shorter : length l.self < length l.fn.self;
}

abbrev pub decreases-chain-rest : goal.decreases-chain-rest
decreases-chain-rest l = length l.self

abbrev pub invariant-args-rest : goal.invariant-args-rest
invariant-args-rest l = record {
  reads : Gives (phrase (phrases.args) ∷ []) l.fn.self (node (phrases.args) 0 ++ expr_outline l.items.first ++ flat_map args_row l.items.rest.items) (phrase (phrases.more_args) ∷ []) l.self;
  shorter : length l.self < length l.fn.self;
}

abbrev pub decreases-args-rest : goal.decreases-args-rest
decreases-args-rest l = length l.self

abbrev pub invariant-bindings-rest : goal.invariant-bindings-rest
invariant-bindings-rest l = record {
  reads : Gives (phrase (phrases.bindings) ∷ []) l.fn.self (node (phrases.bindings) 0 ++ binding_outline l.items.first ++ flat_map bindings_row l.items.rest.items) (phrase (phrases.more_bindings) ∷ []) l.self;
  shorter : length l.self < length l.fn.self;
}

abbrev pub decreases-bindings-rest : goal.decreases-bindings-rest
decreases-bindings-rest l = length l.self

abbrev pub invariant-atoms-rest : goal.invariant-atoms-rest
invariant-atoms-rest l = record {
  reads : Gives (phrase (phrases.atoms) ∷ []) l.fn.self (node (phrases.atoms) 0 ++ atom_outline l.items.first ++ flat_map atoms_row l.items.rest.items) (phrase (phrases.more_atoms) ∷ []) l.self;
  shorter : length l.self < length l.fn.self;
}

abbrev pub decreases-atoms-rest : goal.decreases-atoms-rest
decreases-atoms-rest l = length l.self

abbrev pub invariant-lines-rest : goal.invariant-lines-rest
invariant-lines-rest l = record {
  reads : Gives (phrase (phrases.lines) ∷ []) l.fn.self (node (phrases.lines) 0 ++ line_outline l.items.first ++ flat_map lines_row l.items.rest.items) (phrase (phrases.more_lines) ∷ []) l.self;
  shorter : length l.self < length l.fn.self;
}

abbrev pub decreases-lines-rest : goal.decreases-lines-rest
decreases-lines-rest l = length l.self
