-- Lists that share their ends: they stay when others come, and equal lists have equal numbers.
use Rattle.std.proofs.Common.{◌≡◌, ℕ, zero, suc, List, [], ◌∷◌, Option, Some, refl, sym, ap, subst, ◌∙◌}
use Rattle.std.specs.Prelude.{slice_get}
use Rattle.std.proofs.lemmas.Option.{none-some, same_Some}
use Rattle.hera_typed.specs.Points.{Seen, Walked}
use Rattle.hera_stacks.specs.declared.stacks.Node.{Node}
use Rattle.hera_stacks.specs.Flat.{flat_kinds, flat_seen}
use Rattle.hera_stacks.specs.Stacked.{node_at, AreOperands, AreWalks, IsShared, Grows}
use Rattle.hera_stacks.proofs.Flattened.{kinds_same, seen_same}
use Rattle.hera_stacks.proofs.Keeping.{get_on}

-- ---- growth

pub node_grows : (a b : List Node) (id : ℕ) (n : Node) → Grows a b → node_at a id ≡ Some n → node_at b id ≡ Some n
node_grows a b zero n h at = absurd (none-some n at)
node_grows a b (suc i) n h at = subst (λ xs. slice_get xs i ≡ Some n) (sym h.1) (get_on a h.0 i n at)

pub operands_grow : (a b : List Node) (ss : List Seen) (id : ℕ) → Grows a b → AreOperands a id ss → AreOperands b id ss
operands_grow a b [] id h e = e
operands_grow a b (s ∷ ss) id h e = (e.0, node_grows a b id _ h e.1, operands_grow a b ss e.0 h e.2)

pub walks_grow : (a b : List Node) (ws : List Walked) (id : ℕ) → Grows a b → AreWalks a id ws → AreWalks b id ws
walks_grow a b [] id h e = e
walks_grow a b (w ∷ ws) id h e = (e.0, node_grows a b id _ h e.1, walks_grow a b ws e.0 h e.2)

-- ---- equal lists have equal numbers

numbers_same : (nodes : List Node) (i j : ℕ) (n : Node) → IsShared nodes → node_at nodes i ≡ Some n → node_at nodes j ≡ Some n → i ≡ j
numbers_same nodes zero j n h e g = absurd (none-some n e)
numbers_same nodes (suc i) zero n h e g = absurd (none-some n g)
numbers_same nodes (suc i) (suc j) n h e g = ap suc (h i j n e g)

pub operands_same : (nodes : List Node) (ss : List Seen) (i j : ℕ) → IsShared nodes → AreOperands nodes i ss → AreOperands nodes j ss → i ≡ j
operands_same nodes [] i j h e g = e ∙ sym g
operands_same nodes (s ∷ ss) i j h e g =
    let below = operands_same nodes ss e.0 g.0 h e.2 g.2 in
    numbers_same nodes i j (record { seen = flat_seen s; gathers = flat_kinds []; below = g.0 }) h (e.1 ∙ ap (λ (b : ℕ). Some (record { seen = flat_seen s; gathers = flat_kinds []; below = b })) below) g.1

pub walks_same : (nodes : List Node) (ws : List Walked) (i j : ℕ) → IsShared nodes → AreWalks nodes i ws → AreWalks nodes j ws → i ≡ j
walks_same nodes [] i j h e g = e ∙ sym g
walks_same nodes (w ∷ ws) i j h e g =
    let below = walks_same nodes ws e.0 g.0 h e.2 g.2 in
    numbers_same nodes i j (record { seen = flat_seen w.over; gathers = flat_kinds w.gathers; below = g.0 }) h (e.1 ∙ ap (λ (b : ℕ). Some (record { seen = flat_seen w.over; gathers = flat_kinds w.gathers; below = b })) below) g.1

-- ---- a number is that of one list

same_node : (a b : Node) (o : Option Node) → o ≡ Some a → o ≡ Some b → a ≡ b
same_node a b o h g = same_Some a b (sym h ∙ g)

pub operands_one : (nodes : List Node) (ss ts : List Seen) (id : ℕ) → AreOperands nodes id ss → AreOperands nodes id ts → ss ≡ ts
operands_one nodes [] [] id e g = refl
operands_one nodes [] (t ∷ ts) id e g = absurd (none-some _ (sym (ap (node_at nodes) e) ∙ g.1))
operands_one nodes (s ∷ ss) [] id e g = absurd (none-some _ (sym (ap (node_at nodes) g) ∙ e.1))
operands_one nodes (s ∷ ss) (t ∷ ts) id e g =
    let node = same_node _ _ (node_at nodes id) e.1 g.1 in
    let seen = seen_same s t (ap (λ (n : Node). n.seen) node) in
    let below : e.0 ≡ g.0 = ap (λ (n : Node). n.below) node in
    let rest = operands_one nodes ss ts g.0 (subst (λ b. AreOperands nodes b ss) below e.2) g.2 in
    (λ i. seen i ∷ rest i)

pub walks_one : (nodes : List Node) (ws vs : List Walked) (id : ℕ) → AreWalks nodes id ws → AreWalks nodes id vs → ws ≡ vs
walks_one nodes [] [] id e g = refl
walks_one nodes [] (v ∷ vs) id e g = absurd (none-some _ (sym (ap (node_at nodes) e) ∙ g.1))
walks_one nodes (w ∷ ws) [] id e g = absurd (none-some _ (sym (ap (node_at nodes) g) ∙ e.1))
walks_one nodes (w ∷ ws) (v ∷ vs) id e g =
    let node = same_node _ _ (node_at nodes id) e.1 g.1 in
    let over = seen_same w.over v.over (ap (λ (n : Node). n.seen) node) in
    let gathers = kinds_same w.gathers v.gathers (ap (λ (n : Node). n.gathers.digits) node) in
    let below : e.0 ≡ g.0 = ap (λ (n : Node). n.below) node in
    let rest = walks_one nodes ws vs g.0 (subst (λ b. AreWalks nodes b ws) below e.2) g.2 in
    (λ i. record { over = over i; gathers = gathers i } ∷ rest i)
