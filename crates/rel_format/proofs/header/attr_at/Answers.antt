use Rattle.rel_format.proofs.Steps.{to_attr_name, no_attr, to_kind, no_attr_name, behind_kind, no_kind}
use Rattle.rel_format.proofs.header.attr_at.Goals as goal

pub returns-in_default-clause-read : goal.returns-in_default-clause-read
returns-in_default-clause-read c = rw c.damaged.ensures (λ f p more same r. no_attr f _ _ p more r c.in_default.ensures.value)

pub returns-in_default-attr_name_at-clause-read : goal.returns-in_default-attr_name_at-clause-read
returns-in_default-attr_name_at-clause-read c =
    rw c.damaged-in_default-attr_name_at.ensures
    (λ f p more same r. no_attr_name f _ _ p more _ c.args.attrs.now same (to_attr_name f _ _ p more _ r c.in-Some.ensures.value) c.in_default-attr_name_at.ensures.name)

pub returns-in_default-kind_at-clause-read : goal.returns-in_default-kind_at-clause-read
returns-in_default-kind_at-clause-read c =
    rw c.damaged-in_default-kind_at.ensures
    (λ f p more same r. no_kind f _ _ p more _ (to_kind f _ _ p more _ _ c.args.attrs.now _ same c.in-Some-attr_name_at.ensures.length (to_attr_name f _ _ p more _ r c.in-Some.ensures.value) c.in-Some-attr_name_at.ensures.name) c.in_default-kind_at.ensures.value)

pub returns-clause-read : goal.returns-clause-read
returns-clause-read c = λ f p more same r.
    rw c.in_ok-name.ensures.ok
    (behind_kind f _ _ p more _ _ (to_kind f _ _ p more _ _ c.args.attrs.now _ same c.in-Some-attr_name_at.ensures.length (to_attr_name f _ _ p more _ r c.in-Some.ensures.value) c.in-Some-attr_name_at.ensures.name) c.in-Some-kind_at.ensures.value)
