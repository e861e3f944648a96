-- A removed id stays as a mark in the vector: what is seen are the entries with a key, and the count must be how many those are
use Rattle.std.proofs.Common.{◌∙◌, ap, sym, arith, length}
use Rattle.id_slab.specs.Entries.{live}
use Rattle.id_slab.proofs.Lives as lives
use Rattle.id_slab.proofs.RisingIds.remove.Goals as goal

pub returns-in_err-i-clause-key : goal.returns-in_err-i-clause-key
returns-in_err-i-clause-key c =
    let a = lives.at_none c.self.inside.entries.items c.as_slice.result.now c.args.id c.as_slice.ensures.value c.in_err-i.ensures in
    c.from_residual.ensures ∙ rw (← c.self.view_is) (sym a.key_is)

pub returns-in_err-i-clause-rest : goal.returns-in_err-i-clause-rest
returns-in_err-i-clause-rest c =
    let a = lives.at_none c.self.inside.entries.items c.as_slice.result.now c.args.id c.as_slice.ensures.value c.in_err-i.ensures in
    rw (← c.self.view_is) a.left_is

pub returns-in_err-key-clause-key : goal.returns-in_err-key-clause-key
returns-in_err-key-clause-key c =
    let k = lives.key-at c.self.inside.entries.items c.as_slice.result.now c.args.id c.in_ok-i.i c.index.result.now c.self.invariant.0 c.as_slice.ensures.value c.in_ok-i.ensures c.index.ensures in
    c.from_residual-in_err-key.ensures ∙ rw (← c.self.view_is) (sym (c.in_err-key.was) ∙ sym k)

pub returns-in_err-key-clause-rest : goal.returns-in_err-key-clause-rest
returns-in_err-key-clause-rest c =
    let k = lives.key-at c.self.inside.entries.items c.as_slice.result.now c.args.id c.in_ok-i.i c.index.result.now c.self.invariant.0 c.as_slice.ensures.value c.in_ok-i.ensures c.index.ensures in
    rw (← c.self.view_is) (sym (lives.without-none (live c.self.inside.entries.items) c.args.id (k ∙ c.in_err-key.was)))

pub overflow_sub-self : goal.overflow_sub-self
overflow_sub-self c =
    let k = lives.key-at c.self.inside.entries.items c.as_slice.result.now c.args.id c.in_ok-i.i c.index.result.now c.self.invariant.0 c.as_slice.ensures.value c.in_ok-i.ensures c.index.ensures in
    let less = lives.without-some (live c.self.inside.entries.items) c.args.id c.in_ok-key.key (lives.AreRising-live c.self.inside.entries.items c.self.invariant.0) (k ∙ c.in_ok-key.was) in
    omega (arith, less, c.self.invariant.1)

pub tidy-requires : goal.tidy-requires
tidy-requires c =
    (lives.at_place c.self.inside.entries.items c.as_slice.result.now c.args.id c.in_ok-i.i c.index.result.now c.index_mut.result.now c.self.invariant.0 c.as_slice.ensures.value c.in_ok-i.ensures c.index.ensures c.index_mut.ensures.value).1

pub invariant_of-self : goal.invariant_of-self
invariant_of-self c =
    let k = lives.key-at c.self.inside.entries.items c.as_slice.result.now c.args.id c.in_ok-i.i c.index.result.now c.self.invariant.0 c.as_slice.ensures.value c.in_ok-i.ensures c.index.ensures in
    let less = lives.without-some (live c.self.inside.entries.items) c.args.id c.in_ok-key.key (lives.AreRising-live c.self.inside.entries.items c.self.invariant.0) (k ∙ c.in_ok-key.was) in
    let a = lives.at_place c.self.inside.entries.items c.as_slice.result.now c.args.id c.in_ok-i.i c.index.result.now c.index_mut.result.now c.self.invariant.0 c.as_slice.ensures.value c.in_ok-i.ensures c.index.ensures c.index_mut.ensures.value in
    let left = ap length (c.tidy.ensures.live ∙ a.0.left_is) in
    (c.tidy.ensures.rise, omega (arith, less, left, c.self.invariant.1))

pub returns-clause-key : goal.returns-clause-key
returns-clause-key c =
    let k = lives.key-at c.self.inside.entries.items c.as_slice.result.now c.args.id c.in_ok-i.i c.index.result.now c.self.invariant.0 c.as_slice.ensures.value c.in_ok-i.ensures c.index.ensures in
    rw (← c.self.view_is) (sym (k ∙ c.in_ok-key.was))

pub returns-clause-rest : goal.returns-clause-rest
returns-clause-rest c =
    let a = lives.at_place c.self.inside.entries.items c.as_slice.result.now c.args.id c.in_ok-i.i c.index.result.now c.index_mut.result.now c.self.invariant.0 c.as_slice.ensures.value c.in_ok-i.ensures c.index.ensures c.index_mut.ensures.value in
    rw (← c.self.view_is) (c.tidy.ensures.live ∙ a.0.left_is)
