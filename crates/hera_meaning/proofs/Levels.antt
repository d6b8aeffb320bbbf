-- The meaning of a run does not depend on how deep calls may nest, once that is at least the turns.
use Rattle.std.proofs.Common.{◌≡◌, ℕ, zero, suc, ◌<◌, ◌≤◌, Bool, true, false, List, [], ◌∷◌, map, Some, None, refl, ap, ◌∙◌, arith}
use Rattle.hera_sets.specs.Rows.{Row, normal}
use Rattle.hera_meaning.specs.declared.schemas.RelDecl.{RelDecl}
use Rattle.hera_meaning.specs.Deltas.{Delta, fail, atoms, State}
use Rattle.hera_meaning.specs.Values.{Value, tuple, table, is_true, row_in, rows_in, delta_in, scalar_in, operand}
use Rattle.hera_meaning.specs.Hosts.{Hosts, host_value}
use Rattle.hera_meaning.specs.Primitives.{Answer, gives, refuses, prim_of}
use Rattle.hera_meaning.specs.Trees.{Expr, constant, local, relation, prim, chain, and_all, or_any, when, select, map_each, call, host, Exprs, no_more, then_expr, Links, no_link, link, Hypos, no_hypo, hypo, Command, set_slot, if_arms, while, foreach, print, apply, commit, rollback, assert, return, return_value, call_proc, Block, no_stmt, then_stmt, Arms, no_arm, arm, Program_tree}
use Rattle.hera_meaning.specs.Worlds.{World, world_at, set_local, locals_from, Ended, got, trapped, spent, and_then, turn, answered, by, supposed, Ending, goes_on, returned, traps, runs_out, then_do, with_value, turn_in, applied, result_of, resumed, Calls}
use Rattle.hera_meaning.specs.Expressions.{for_rows, chosen, eval, eval_all, every, some, eval_links, suppose}
use Rattle.hera_meaning.specs.Statements.{while_of, each_row, exec, exec_block, exec_arms}
use Rattle.hera_meaning.specs.Run.{body_at, calls_at, run_to, run_of, report_of}

-- at most n turns are left
abbrev pub Within : {A : Type 0} → ℕ → Ended A → Type 0
Within n (got v m) = m ≤ n
Within n (trapped name at) = Unit {0}
Within n spent = Unit {0}

-- the two are one, and leave at most n turns
pub record Alike {A : Type 0} (n : ℕ) (x y : Ended A) : Type 0 where
  pub same : x ≡ y
  pub within : Within n x

weaken : {A : Type 0} (m n : ℕ) (x : Ended A) → m ≤ n → Within m x → Within n x
weaken m n (got v k) le h = omega arith
weaken m n (trapped name at) le h = tt
weaken m n spent le h = tt

alike_more : {A : Type 0} (m n : ℕ) (x y : Ended A) → m ≤ n → Alike m x y → Alike n x y
alike_more m n x y le h = record { same = h.same; within = weaken m n x le h.within }

alike_got : {A : Type 0} (v : A) (m n : ℕ) → m ≤ n → Alike n (got v m) (got v m)
alike_got v m n le = record { same = refl; within = le }

then_inside : {A B : Type 0} (n : ℕ) (x : Ended A) (f g : A → ℕ → Ended B) → Within n x → ((v : A) (m : ℕ) → m ≤ n → Alike m (f v m) (g v m)) → Alike n (and_then x f) (and_then x g)
then_inside n (got v m) f g h k = alike_more m n (f v m) (g v m) h (k v m h)
then_inside n (trapped name at) f g h k = record { same = refl; within = tt }
then_inside n spent f g h k = record { same = refl; within = tt }

alike_then : {A B : Type 0} (n : ℕ) (x y : Ended A) (f g : A → ℕ → Ended B) → Alike n x y → ((v : A) (m : ℕ) → m ≤ n → Alike m (f v m) (g v m)) → Alike n (and_then x f) (and_then y g)
alike_then {A} n x y f g h k =
    let inside = then_inside n x f g h.within k in
    record { same = inside.same ∙ ap (λ (z : Ended A). and_then z g) h.same; within = inside.within }

alike_turn : {A : Type 0} (n : ℕ) (f g : ℕ → Ended A) → ((m : ℕ) → m ≤ n → Alike m (f m) (g m)) → Alike n (turn n f) (turn n g)
alike_turn zero f g k = record { same = refl; within = tt }
alike_turn (suc m) f g k = alike_more m (suc m) (f m) (g m) (omega arith) (k m (omega arith))

alike_answered : (at : ℕ) (a : Answer) (n : ℕ) → Alike n (answered at a n) (answered at a n)
alike_answered at (gives v) n = record { same = refl; within = omega arith }
alike_answered at (refuses name) n = record { same = refl; within = tt }

alike_by : {A : Type 0} (b : Bool) (n : ℕ) (f g f' g' : ℕ → Ended A) → Alike n (f n) (g n) → Alike n (f' n) (g' n) → Alike n (by b f f' n) (by b g g' n)
alike_by true n f g f' g' h k = h
alike_by false n f g f' g' h k = k

alike_supposed : (at : ℕ) (s : State) (d : Delta) (n : ℕ) → Alike n (supposed at s d n) (supposed at s d n)
alike_supposed at s fail n = record { same = refl; within = tt }
alike_supposed at s (atoms xs) n = record { same = refl; within = omega arith }

alike_rows : (k : ℕ) (f g : Row → ℕ → Ended Value) → ((x : Row) (m : ℕ) → m ≤ k → Alike m (f x m) (g x m)) → (rows : List Row) (n : ℕ) → n ≤ k → Alike n (for_rows f rows n) (for_rows g rows n)
alike_rows k f g h [] n le = alike_got [] n n (omega arith)
alike_rows k f g h (x ∷ xs) n le =
    alike_then n (f x n) (g x n) _ _ (h x n le) (λ v m l.
    alike_turn m _ _ (λ j l'. alike_then j (for_rows f xs j) (for_rows g xs j) _ _ (alike_rows k f g h xs j (omega arith)) (λ vs i l''. alike_got (v ∷ vs) i i (omega arith))))

-- ---- the same of statements

abbrev pub WithinDo : ℕ → Ending → Type 0
WithinDo n (goes_on ls w m) = m ≤ n
WithinDo n (returned v w m) = m ≤ n
WithinDo n (traps name at es) = Unit {0}
WithinDo n (runs_out es) = Unit {0}

pub record AlikeDo (n : ℕ) (x y : Ending) : Type 0 where
  pub same : x ≡ y
  pub within : WithinDo n x

weaken_do : (m n : ℕ) (x : Ending) → m ≤ n → WithinDo m x → WithinDo n x
weaken_do m n (goes_on ls w k) le h = omega arith
weaken_do m n (returned v w k) le h = omega arith
weaken_do m n (traps name at es) le h = tt
weaken_do m n (runs_out es) le h = tt

do_more : (m n : ℕ) (x y : Ending) → m ≤ n → AlikeDo m x y → AlikeDo n x y
do_more m n x y le h = record { same = h.same; within = weaken_do m n x le h.within }

do_going : (ls : List Value) (w : World) (n : ℕ) → AlikeDo n (goes_on ls w n) (goes_on ls w n)
do_going ls w n = record { same = refl; within = omega arith }

do_inside : (n : ℕ) (x : Ending) (f g : List Value → World → ℕ → Ending) → WithinDo n x → ((ls : List Value) (w : World) (m : ℕ) → m ≤ n → AlikeDo m (f ls w m) (g ls w m)) → AlikeDo n (then_do x f) (then_do x g)
do_inside n (goes_on ls w m) f g h k = do_more m n (f ls w m) (g ls w m) h (k ls w m h)
do_inside n (returned v w m) f g h k = record { same = refl; within = h }
do_inside n (traps name at es) f g h k = record { same = refl; within = tt }
do_inside n (runs_out es) f g h k = record { same = refl; within = tt }

do_then : (n : ℕ) (x y : Ending) (f g : List Value → World → ℕ → Ending) → AlikeDo n x y → ((ls : List Value) (w : World) (m : ℕ) → m ≤ n → AlikeDo m (f ls w m) (g ls w m)) → AlikeDo n (then_do x f) (then_do y g)
do_then n x y f g h k =
    let inside = do_inside n x f g h.within k in
    record { same = inside.same ∙ ap (λ (z : Ending). then_do z g) h.same; within = inside.within }

value_inside : {A : Type 0} (n : ℕ) (x : Ended A) (w : World) (f g : A → ℕ → Ending) → Within n x → ((v : A) (m : ℕ) → m ≤ n → AlikeDo m (f v m) (g v m)) → AlikeDo n (with_value x w f) (with_value x w g)
value_inside n (got v m) w f g h k = do_more m n (f v m) (g v m) h (k v m h)
value_inside n (trapped name at) w f g h k = record { same = refl; within = tt }
value_inside n spent w f g h k = record { same = refl; within = tt }

do_value : {A : Type 0} (n : ℕ) (x y : Ended A) (w : World) (f g : A → ℕ → Ending) → Alike n x y → ((v : A) (m : ℕ) → m ≤ n → AlikeDo m (f v m) (g v m)) → AlikeDo n (with_value x w f) (with_value y w g)
do_value {A} n x y w f g h k =
    let inside = value_inside n x w f g h.within k in
    record { same = inside.same ∙ ap (λ (z : Ended A). with_value z w g) h.same; within = inside.within }

do_turn : (w : World) (n : ℕ) (f g : ℕ → Ending) → ((m : ℕ) → m < n → AlikeDo m (f m) (g m)) → AlikeDo n (turn_in w n f) (turn_in w n g)
do_turn w zero f g k = record { same = refl; within = tt }
do_turn w (suc m) f g k = do_more m (suc m) (f m) (g m) (omega arith) (k m (omega arith))

do_by : (b : Bool) (n : ℕ) (f g f' g' : ℕ → Ending) → AlikeDo n (f n) (g n) → AlikeDo n (f' n) (g' n) → AlikeDo n (by b f f' n) (by b g g' n)
do_by true n f g f' g' h k = h
do_by false n f g f' g' h k = k

do_applied : (at : ℕ) (d : Delta) (ls : List Value) (w : World) (n : ℕ) → AlikeDo n (applied at d ls w n) (applied at d ls w n)
do_applied at fail ls w n = record { same = refl; within = tt }
do_applied at (atoms xs) ls w n = record { same = refl; within = omega arith }

result_within : (n : ℕ) (x : Ending) → WithinDo n x → Within n (result_of x)
result_within n (goes_on ls w m) h = h
result_within n (returned None w m) h = h
result_within n (returned (Some v) w m) h = h
result_within n (traps name at es) h = tt
result_within n (runs_out es) h = tt

resumed_within : (n : ℕ) (ls : List Value) (x : Ending) → WithinDo n x → WithinDo n (resumed ls x)
resumed_within n ls (goes_on ls' w m) h = h
resumed_within n ls (returned v w m) h = h
resumed_within n ls (traps name at es) h = tt
resumed_within n ls (runs_out es) h = tt

do_while : (k limit : ℕ) (t t' : List Value → World → ℕ → Ended Value) (b b' : List Value → World → ℕ → Ending)
    → ((ls : List Value) (w : World) (m : ℕ) → m ≤ k → Alike m (t ls w m) (t' ls w m)) → ((ls : List Value) (w : World) (m : ℕ) → m ≤ k → AlikeDo m (b ls w m) (b' ls w m))
    → (ls : List Value) (w : World) (n : ℕ) → n ≤ k → AlikeDo n (while_of limit t b ls w n) (while_of limit t' b' ls w n)
do_while k zero t t' b b' f g ls w n le = record { same = refl; within = tt }
do_while k (suc limit) t t' b b' f g ls w n le =
    do_value n (t ls w n) (t' ls w n) w _ _ (f ls w n le) (λ v m l.
    do_by (is_true v) m _ _ _ _
    (do_then m (b ls w m) (b' ls w m) _ _ (g ls w m (omega arith)) (λ ls w j l'. do_turn w j _ _ (λ i l''. do_while k limit t t' b b' f g ls w i (omega arith))))
    (do_going ls w m))

do_rows : (k : ℕ) (b b' : Row → List Value → World → ℕ → Ending) → ((x : Row) (ls : List Value) (w : World) (m : ℕ) → m ≤ k → AlikeDo m (b x ls w m) (b' x ls w m))
    → (rows : List Row) (ls : List Value) (w : World) (n : ℕ) → n ≤ k → AlikeDo n (each_row b rows ls w n) (each_row b' rows ls w n)
do_rows k b b' f [] ls w n le = do_going ls w n
do_rows k b b' f (x ∷ xs) ls w n le =
    do_then n (b x ls w n) (b' x ls w n) _ _ (f x ls w n le) (λ ls w j l. do_turn w j _ _ (λ i l'. do_rows k b b' f xs ls w i (omega arith)))

-- ---- two ways to call that are one with at most k turns

abbrev pub Agree : ℕ → Calls → Calls → Type 0
Agree k f g = (b : ℕ) (args : List Value) (w : World) (n : ℕ) → n ≤ k → AlikeDo n (f b args w n) (g b args w n)

module _ (hosts : Hosts) (f g : Calls) (k : ℕ) (agree : Agree k f g) where
  mutual
    pub eval_alike : (e : Expr) (ls : List Value) (s : State) (n : ℕ) → n ≤ k → Alike n (eval hosts f e ls s n) (eval hosts g e ls s n)
    eval_alike (constant c) ls s n le = record { same = refl; within = omega arith }
    eval_alike (local i) ls s n le = record { same = refl; within = omega arith }
    eval_alike (relation r) ls s n le = record { same = refl; within = omega arith }
    eval_alike (prim op args at) ls s n le =
        alike_then n (eval_all hosts f args ls s n) (eval_all hosts g args ls s n) _ _ (all_alike args ls s n le) (λ vs m l. alike_answered at (prim_of op vs) m)
    eval_alike (chain first links) ls s n le =
        alike_then n (eval hosts f first ls s n) (eval hosts g first ls s n) _ _ (eval_alike first ls s n le) (λ v m l. links_alike links v ls s m (omega arith))
    eval_alike (and_all args) ls s n le = every_alike args ls s n le
    eval_alike (or_any args) ls s n le = some_alike args ls s n le
    eval_alike (when body hypos) ls s n le =
        alike_then n (suppose hosts f hypos ls s n) (suppose hosts g hypos ls s n) _ _ (suppose_alike hypos ls s n le) (λ s m l. eval_alike body ls s m (omega arith))
    eval_alike (select i of body) ls s n le =
        alike_then n (eval hosts f of ls s n) (eval hosts g of ls s n) _ _ (eval_alike of ls s n le) (λ v m l.
        alike_then m (for_rows (λ x m. eval hosts f body (set_local ls i (tuple x)) s m) (rows_in v) m) (for_rows (λ x m. eval hosts g body (set_local ls i (tuple x)) s m) (rows_in v) m) _ _
        (alike_rows k _ _ (λ x j l'. eval_alike body (set_local ls i (tuple x)) s j l') (rows_in v) m (omega arith))
        (λ vs j l'. alike_got (table (chosen (rows_in v) vs)) j j (omega arith)))
    eval_alike (map_each i of body) ls s n le =
        alike_then n (eval hosts f of ls s n) (eval hosts g of ls s n) _ _ (eval_alike of ls s n le) (λ v m l.
        alike_then m (for_rows (λ x m. eval hosts f body (set_local ls i (tuple x)) s m) (rows_in v) m) (for_rows (λ x m. eval hosts g body (set_local ls i (tuple x)) s m) (rows_in v) m) _ _
        (alike_rows k _ _ (λ x j l'. eval_alike body (set_local ls i (tuple x)) s j l') (rows_in v) m (omega arith))
        (λ vs j l'. alike_got (table (normal (map row_in vs))) j j (omega arith)))
    eval_alike (call b args) ls s n le =
        alike_then n (eval_all hosts f args ls s n) (eval_all hosts g args ls s n) _ _ (all_alike args ls s n le) (λ vs m l.
        let h : AlikeDo m (f b vs (world_at s) m) (g b vs (world_at s) m) = agree b vs (world_at s) m (omega arith) in
        record { same = ap result_of h.same; within = result_within m (f b vs (world_at s) m) h.within })
    eval_alike (host h args) ls s n le =
        alike_then n (eval_all hosts f args ls s n) (eval_all hosts g args ls s n) _ _ (all_alike args ls s n le) (λ vs m l. alike_got (host_value hosts h (scalar_in (operand vs 0))) m m (omega arith))

    pub all_alike : (es : Exprs) (ls : List Value) (s : State) (n : ℕ) → n ≤ k → Alike n (eval_all hosts f es ls s n) (eval_all hosts g es ls s n)
    all_alike no_more ls s n le = record { same = refl; within = omega arith }
    all_alike (then_expr e es) ls s n le =
        alike_then n (eval hosts f e ls s n) (eval hosts g e ls s n) _ _ (eval_alike e ls s n le) (λ v m l.
        alike_then m (eval_all hosts f es ls s m) (eval_all hosts g es ls s m) _ _ (all_alike es ls s m (omega arith)) (λ vs j l'. alike_got (v ∷ vs) j j (omega arith)))

    pub every_alike : (es : Exprs) (ls : List Value) (s : State) (n : ℕ) → n ≤ k → Alike n (every hosts f es ls s n) (every hosts g es ls s n)
    every_alike no_more ls s n le = record { same = refl; within = omega arith }
    every_alike (then_expr e no_more) ls s n le = eval_alike e ls s n le
    every_alike (then_expr e (then_expr d ds)) ls s n le =
        alike_then n (eval hosts f e ls s n) (eval hosts g e ls s n) _ _ (eval_alike e ls s n le) (λ v m l.
        alike_by (is_true v) m _ _ _ _ (every_alike (then_expr d ds) ls s m (omega arith)) (alike_got v m m (omega arith)))

    pub some_alike : (es : Exprs) (ls : List Value) (s : State) (n : ℕ) → n ≤ k → Alike n (some hosts f es ls s n) (some hosts g es ls s n)
    some_alike no_more ls s n le = record { same = refl; within = omega arith }
    some_alike (then_expr e no_more) ls s n le = eval_alike e ls s n le
    some_alike (then_expr e (then_expr d ds)) ls s n le =
        alike_then n (eval hosts f e ls s n) (eval hosts g e ls s n) _ _ (eval_alike e ls s n le) (λ v m l.
        alike_by (is_true v) m _ _ _ _ (alike_got v m m (omega arith)) (some_alike (then_expr d ds) ls s m (omega arith)))

    pub links_alike : (links : Links) (v : Value) (ls : List Value) (s : State) (n : ℕ) → n ≤ k → Alike n (eval_links hosts f links v ls s n) (eval_links hosts g links v ls s n)
    links_alike no_link v ls s n le = record { same = refl; within = omega arith }
    links_alike (link op arg at rest) v ls s n le =
        alike_then n (eval hosts f arg ls s n) (eval hosts g arg ls s n) _ _ (eval_alike arg ls s n le) (λ a m l.
        alike_then m (answered at (prim_of op (v ∷ a ∷ [])) m) (answered at (prim_of op (v ∷ a ∷ [])) m) _ _ (alike_answered at (prim_of op (v ∷ a ∷ [])) m) (λ v j l'. links_alike rest v ls s j (omega arith)))

    pub suppose_alike : (hypos : Hypos) (ls : List Value) (s : State) (n : ℕ) → n ≤ k → Alike n (suppose hosts f hypos ls s n) (suppose hosts g hypos ls s n)
    suppose_alike no_hypo ls s n le = record { same = refl; within = omega arith }
    suppose_alike (hypo d at rest) ls s n le =
        alike_then n (suppose hosts f rest ls s n) (suppose hosts g rest ls s n) _ _ (suppose_alike rest ls s n le) (λ s m l.
        alike_then m (eval hosts f d ls s m) (eval hosts g d ls s m) _ _ (eval_alike d ls s m (omega arith)) (λ v j l'. alike_supposed at s (delta_in v) j))

module _ (rels : List RelDecl) (hosts : Hosts) (f g : Calls) (k : ℕ) (agree : Agree k f g) where
  mutual
    pub exec_alike : (c : Command) (ls : List Value) (w : World) (n : ℕ) → n ≤ k → AlikeDo n (exec rels hosts f c ls w n) (exec rels hosts g c ls w n)
    exec_alike (set_slot i e) ls w n le =
        do_value n (eval hosts f e ls w.state n) (eval hosts g e ls w.state n) w _ _ (eval_alike hosts f g k agree e ls w.state n le) (λ v m l. do_going (set_local ls i v) w m)
    exec_alike (if_arms arms other) ls w n le = arms_alike arms (λ m. exec_block rels hosts f other ls w m) (λ m. exec_block rels hosts g other ls w m) ls w n le (λ m l. block_alike other ls w m l)
    exec_alike (while c block) ls w n le =
        do_while k (suc n) _ _ _ _ (λ ls w m l. eval_alike hosts f g k agree c ls w.state m l) (λ ls w m l. block_alike block ls w m l) ls w n le
    exec_alike (foreach i of block) ls w n le =
        do_value n (eval hosts f of ls w.state n) (eval hosts g of ls w.state n) w _ _ (eval_alike hosts f g k agree of ls w.state n le) (λ v m l.
        do_rows k _ _ (λ x ls w j l'. block_alike block (set_local ls i (tuple x)) w j l') (rows_in v) ls w m (omega arith))
    exec_alike (print e shape) ls w n le =
        do_value n (eval hosts f e ls w.state n) (eval hosts g e ls w.state n) w _ _ (eval_alike hosts f g k agree e ls w.state n le) (λ v m l. record { same = refl; within = omega arith })
    exec_alike (apply d at) ls w n le =
        do_value n (eval hosts f d ls w.state n) (eval hosts g d ls w.state n) w _ _ (eval_alike hosts f g k agree d ls w.state n le) (λ v m l. do_applied at (delta_in v) ls w m)
    exec_alike (commit label) ls w n le = record { same = refl; within = omega arith }
    exec_alike rollback ls w n le = record { same = refl; within = omega arith }
    exec_alike (assert c at) ls w n le =
        do_value n (eval hosts f c ls w.state n) (eval hosts g c ls w.state n) w _ _ (eval_alike hosts f g k agree c ls w.state n le) (λ v m l.
        do_by (is_true v) m _ _ _ _ (do_going ls w m) (record { same = refl; within = tt }))
    exec_alike return ls w n le = record { same = refl; within = omega arith }
    exec_alike (return_value e) ls w n le =
        do_value n (eval hosts f e ls w.state n) (eval hosts g e ls w.state n) w _ _ (eval_alike hosts f g k agree e ls w.state n le) (λ v m l. record { same = refl; within = omega arith })
    exec_alike (call_proc b args) ls w n le =
        do_value n (eval_all hosts f args ls w.state n) (eval_all hosts g args ls w.state n) w _ _ (all_alike hosts f g k agree args ls w.state n le) (λ vs m l.
        let h : AlikeDo m (f b vs w m) (g b vs w m) = agree b vs w m (omega arith) in
        record { same = ap (resumed ls) h.same; within = resumed_within m ls (f b vs w m) h.within })

    pub block_alike : (b : Block) (ls : List Value) (w : World) (n : ℕ) → n ≤ k → AlikeDo n (exec_block rels hosts f b ls w n) (exec_block rels hosts g b ls w n)
    block_alike no_stmt ls w n le = do_going ls w n
    block_alike (then_stmt c rest) ls w n le =
        do_then n (exec rels hosts f c ls w n) (exec rels hosts g c ls w n) _ _ (exec_alike c ls w n le) (λ ls w m l. block_alike rest ls w m (omega arith))

    pub arms_alike : (arms : Arms) (other other' : ℕ → Ending) (ls : List Value) (w : World) (n : ℕ) → n ≤ k → ((m : ℕ) → m ≤ k → AlikeDo m (other m) (other' m)) → AlikeDo n (exec_arms rels hosts f arms other ls w n) (exec_arms rels hosts g arms other' ls w n)
    arms_alike no_arm other other' ls w n le h = h n le
    arms_alike (arm c block rest) other other' ls w n le h =
        do_value n (eval hosts f c ls w.state n) (eval hosts g c ls w.state n) w _ _ (eval_alike hosts f g k agree c ls w.state n le) (λ v m l.
        do_by (is_true v) m _ _ _ _ (block_alike block ls w m (omega arith)) (arms_alike rest other other' ls w m (omega arith) h))

-- calls that nest at least as deep as there are turns
pub calls_alike : (p : Program_tree) (hosts : Hosts) (d e : ℕ) (k : ℕ) → k ≤ d → k ≤ e → Agree k (calls_at p hosts d) (calls_at p hosts e)
calls_alike p hosts zero zero k h g b args w n le = record { same = refl; within = tt }
calls_alike p hosts zero (suc e) k h g b args w zero le = record { same = refl; within = tt }
calls_alike p hosts zero (suc e) k h g b args w (suc n) le = absurd (omega arith)
calls_alike p hosts (suc d) zero k h g b args w zero le = record { same = refl; within = tt }
calls_alike p hosts (suc d) zero k h g b args w (suc n) le = absurd (omega arith)
calls_alike p hosts (suc d) (suc e) k h g b args w n le =
    do_turn w n _ _ (λ m l.
    block_alike p.relations hosts (calls_at p hosts d) (calls_at p hosts e) m (calls_alike p hosts d e m (omega arith) (omega arith)) (body_at p.bodies b).block (locals_from (body_at p.bodies b).slots args) w m (omega arith))

-- a run with calls that may nest deeper is the same run
pub run_alike : (p : Program_tree) (s : State) (hosts : Hosts) (n depth : ℕ) → n ≤ depth → report_of (run_to depth p s hosts n) ≡ run_of p s hosts n
run_alike p s hosts n depth le =
    ap report_of (block_alike p.relations hosts (calls_at p hosts depth) (calls_at p hosts n) n (calls_alike p hosts depth n n le (omega arith)) (body_at p.bodies 0).block (locals_from (body_at p.bodies 0).slots []) (world_at s) n (omega arith)).same
