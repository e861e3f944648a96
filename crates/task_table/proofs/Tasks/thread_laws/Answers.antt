use Rattle.task_table.proofs.Tasks.thread_laws.Goals as goal

pub returns : goal.returns
returns c = rw (← c.self.view_is) c.self.invariant.threaded
