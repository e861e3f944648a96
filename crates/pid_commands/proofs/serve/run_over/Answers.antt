use Rattle.std.proofs.Common.{inl, refl, rules}
use Rattle.pid_commands.specs.declared.fault.Fault.TheVariants.{NoMemory}
use Rattle.pid_commands.proofs.serve.run_over.Goals as goal

-- there was no memory to read the words
pub returns-in-Err-NoMemory : goal.returns-in-Err-NoMemory
returns-in-Err-NoMemory g c =
    rw c.say_fault-in-Err-NoMemory.ensures.status (NoMemory, inl (search rules, refl, refl), c.say_fault-in-Err-NoMemory.ensures.said)
