use Rattle.std.proofs.Common.{rules}
use Rattle.pid_commands.proofs.jobs.read_file.Goals as goal

pub returns-in-Ok-read_job-clause-job : goal.returns-in-Ok-read_job-clause-job
returns-in-Ok-read_job-clause-job g c = search rules

pub returns-in-Err-clause-fault : goal.returns-in-Err-clause-fault
returns-in-Err-clause-fault g c = search rules
