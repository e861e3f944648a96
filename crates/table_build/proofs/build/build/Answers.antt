use Rattle.std.proofs.Common.{[], map, ap, sym, subst, ◌∙◌, arith}
use Rattle.table_build.specs.Bare.{steady}
use Rattle.table_build.proofs.SpaceFalls.{steady-bare, steady-same}
use Rattle.task_table.specs.Store.{Store, HasNoThreads}
use Rattle.task_table.proofs.Results.{if_err}
use Rattle.table_build.proofs.build.build.Goals as goal

pub put_falls-requires : goal.put_falls-requires
put_falls-requires c = record {
  listed =
      steady-same c.in_ok-store.store.numbering c.put_tasks.new.store.numbering c.in_ok-put_tasks.ensures.places.spaces
      ∙ ap (map steady) c.in_ok-store.ensures.spaces ∙ steady-bare c.args.saved.now.spaces.items;
}

pub put_cursors-requires : goal.put_cursors-requires
put_cursors-requires c = grind arith

pub returns-clause-state : goal.returns-clause-state
returns-clause-state c =
    let p = c.in_ok-put_tasks.ensures.places in
    let f = c.in_ok-put_falls.ensures in
    let m = c.put_cursors.ensures.moved in
    let rows = c.put_cursors.ensures.rows ∙ f.rows ∙ c.in_ok-put_tasks.ensures.rows in
    let controls = ap (λ x. x.controls) m.charges ∙ ap (λ s. s.charges.controls) f.rest.rest ∙ p.controls ∙ c.in_ok-store.ensures.controls in
    let bound = m.spaces.bound ∙ f.rest.bound ∙ p.spaces.bound ∙ c.in_ok-store.ensures.bound in
    λ i. record { rows = rows i; threads = []; left = []; spaces = c.put_cursors.ensures.put i; controls = controls i; pid_max = bound i }

pub returns-in_err-put_tasks-clause-refused : goal.returns-in_err-put_tasks-clause-refused
returns-in_err-put_tasks-clause-refused c =
    let p = c.in_ok-store.ensures in
    if_err c.from_residual-in_err-put_tasks.result _ c.in_err-put_tasks.field-0.0 c.from_residual-in_err-put_tasks.ensures.1 (λ not tables.
    c.in_err-put_tasks.ensures.refused not tables.sound
    (record { spaces = ap (map steady) p.spaces ∙ steady-bare c.args.saved.now.spaces.items; controls = p.controls; bound = p.bound }))

pub returns-in_err-store-clause-refused : goal.returns-in_err-store-clause-refused
returns-in_err-store-clause-refused c = if_err c.from_residual.result _ c.in_err-store.field-0.0 c.from_residual.ensures.1 c.in_err-store.ensures.refused

pub returns-clause-alone : goal.returns-clause-alone
returns-clause-alone c =
    subst HasNoThreads (sym (c.put_cursors.ensures.moved.threads ∙ ap (λ (s : Store). s.threads) c.in_ok-put_falls.ensures.rest.rest)) c.in_ok-put_tasks.ensures.alone

pub returns-clause-kin : goal.returns-clause-kin
returns-clause-kin c = grind arith

pub returns-in_err-put_falls-clause-refused : goal.returns-in_err-put_falls-clause-refused
returns-in_err-put_falls-clause-refused c =
    if_err c.from_residual-in_err-put_falls.result _ c.in_err-put_falls.field-0.0 c.from_residual-in_err-put_falls.ensures.1 (λ not tables.
    c.in_err-put_falls.ensures.refused not tables.sound c.in_ok-put_tasks.ensures.rows)
