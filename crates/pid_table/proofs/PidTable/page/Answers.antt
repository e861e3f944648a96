use Rattle.pid_table.proofs.PidTable.page.Goals as goal

pub returns-clause-seen : goal.returns-clause-seen
returns-clause-seen c = rw (← c.self.view_is) c.read_page.ensures.seen
