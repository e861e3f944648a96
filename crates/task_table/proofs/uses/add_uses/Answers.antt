use Rattle.std.proofs.Common.{◌∙◌, ◌==◌}
use Rattle.pid_types.specs.declared.call.Kind.TheVariants.{Group, Session}
use Rattle.task_table.proofs.UseCounts as uses
use Rattle.task_table.proofs.Threaded as threads
use Rattle.task_table.proofs.uses.add_uses.Goals as goal

pub add_use-requires-clause-there : goal.add_use-requires-clause-there
add_use-requires-clause-there c = threads.used-there c.args.numbers.now c.args.group c.requires.group

pub add_use-requires-2-clause-there : goal.add_use-requires-2-clause-there
add_use-requires-2-clause-there c =
    uses.still_there c.args.numbers.now c.add_use.new.self
    (uses.bare-added c.args.numbers.now c.add_use.new.self c.args.group Group c.add_use.ensures.others (threads.used-there c.args.numbers.now c.args.group c.requires.group) c.add_use.ensures.here)
    c.args.session (threads.used-there c.args.numbers.now c.args.session c.requires.session)

pub add_use-requires-clause-few : goal.add_use-requires-clause-few
add_use-requires-clause-few c = uses.few-uses c.args.numbers.now Group c.args.group (c.requires.few Group c.args.group)

pub add_use-requires-2-clause-few : goal.add_use-requires-2-clause-few
add_use-requires-2-clause-few c =
    let more = uses.uses-added c.args.numbers.now c.add_use.new.self c.args.group Group c.add_use.ensures.others (threads.used-there c.args.numbers.now c.args.group c.requires.group) c.add_use.ensures.here Session c.args.session in
    let few = c.requires.few Session c.args.session in
    uses.few-uses c.add_use.new.self Session c.args.session (uses.no_more (c.args.session == c.args.group) _ _ more few)

pub returns-clause-bare : goal.returns-clause-bare
returns-clause-bare c i =
    uses.bare-added c.add_use.new.self c.add_use-2.new.self c.args.session Session c.add_use-2.ensures.others
    (uses.still_there c.args.numbers.now c.add_use.new.self (uses.bare-added c.args.numbers.now c.add_use.new.self c.args.group Group c.add_use.ensures.others (threads.used-there c.args.numbers.now c.args.group c.requires.group) c.add_use.ensures.here) c.args.session (threads.used-there c.args.numbers.now c.args.session c.requires.session))
    c.add_use-2.ensures.here i
    ∙ uses.bare-added c.args.numbers.now c.add_use.new.self c.args.group Group c.add_use.ensures.others (threads.used-there c.args.numbers.now c.args.group c.requires.group) c.add_use.ensures.here i

pub returns-clause-threads : goal.returns-clause-threads
returns-clause-threads c =
    let first = threads.added c.args.numbers.now c.add_use.new.self c.args.group Group c.add_use.ensures.others c.requires.group c.add_use.ensures.here in
    let there = uses.still_there c.args.numbers.now c.add_use.new.self
    (uses.bare-added c.args.numbers.now c.add_use.new.self c.args.group Group c.add_use.ensures.others (threads.used-there c.args.numbers.now c.args.group c.requires.group) c.add_use.ensures.here)
    c.args.session (threads.used-there c.args.numbers.now c.args.session c.requires.session) in
    threads.both c.args.numbers.now c.add_use.new.self c.add_use-2.new.self first
    (threads.added c.add_use.new.self c.add_use-2.new.self c.args.session Session c.add_use-2.ensures.others
    (threads.used-kept c.args.numbers.now c.add_use.new.self first c.args.session c.requires.session there) c.add_use-2.ensures.here)
