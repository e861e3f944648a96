use Rattle.std.proofs.Common.{arith}
use Rattle.std.proofs.lemmas.Grind.{common_steps}
use Rattle.pid_script.proofs.line.other_line.Goals as goal

pub slice_bounds-get_sid_line-count : goal.slice_bounds-get_sid_line-count
slice_bounds-get_sid_line-count c = grind arith

pub returns-in-110-2 : goal.returns-in-110-2
returns-in-110-2 c = grind (arith, common_steps)

pub slice_bounds-ns_pid_line-start : goal.slice_bounds-ns_pid_line-start
slice_bounds-ns_pid_line-start c = grind arith

pub slice_bounds-count_line-count : goal.slice_bounds-count_line-count
slice_bounds-count_line-count c = grind arith

pub slice_bounds-get_sid_line-start : goal.slice_bounds-get_sid_line-start
slice_bounds-get_sid_line-start c = grind arith

pub returns-in-103-3 : goal.returns-in-103-3
returns-in-103-3 c = grind (arith, common_steps)

pub slice_bounds-set_sid_line-start : goal.slice_bounds-set_sid_line-start
slice_bounds-set_sid_line-start c = grind arith

pub returns-in-99 : goal.returns-in-99
returns-in-99 c = grind (arith, common_steps)

pub slice_bounds-ns_pid_line-count : goal.slice_bounds-ns_pid_line-count
slice_bounds-ns_pid_line-count c = grind arith

pub slice_bounds-get_ppid_line-start : goal.slice_bounds-get_ppid_line-start
slice_bounds-get_ppid_line-start c = grind arith

pub slice_bounds-get_pid_line-count : goal.slice_bounds-get_pid_line-count
slice_bounds-get_pid_line-count c = grind arith

pub returns-in-103-2 : goal.returns-in-103-2
returns-in-103-2 c = grind (arith, common_steps)

pub returns-in-115-2 : goal.returns-in-115-2
returns-in-115-2 c = grind (arith, common_steps)

pub slice_bounds-get_pgid_line-count : goal.slice_bounds-get_pgid_line-count
slice_bounds-get_pgid_line-count c = grind arith

pub returns-in-103-4 : goal.returns-in-103-4
returns-in-103-4 c = grind (arith, common_steps)

pub slice_bounds-set_sid_line-count : goal.slice_bounds-set_sid_line-count
slice_bounds-set_sid_line-count c = grind arith

pub returns-in-103 : goal.returns-in-103
returns-in-103 c = grind (arith, common_steps)

pub slice_bounds-get_pid_line-start : goal.slice_bounds-get_pid_line-start
slice_bounds-get_pid_line-start c = grind arith

pub slice_bounds-set_pgid_line-start : goal.slice_bounds-set_pgid_line-start
slice_bounds-set_pgid_line-start c = grind arith

pub slice_bounds-set_pgid_line-count : goal.slice_bounds-set_pgid_line-count
slice_bounds-set_pgid_line-count c = grind arith

pub returns-in-110 : goal.returns-in-110
returns-in-110 c = grind (arith, common_steps)

pub returns-in_default-front : goal.returns-in_default-front
returns-in_default-front c = grind (arith, common_steps)

pub slice_bounds-get_ppid_line-count : goal.slice_bounds-get_ppid_line-count
slice_bounds-get_ppid_line-count c = grind arith

pub slice_bounds-count_line-start : goal.slice_bounds-count_line-start
slice_bounds-count_line-start c = grind arith

pub slice_bounds-get_pgid_line-start : goal.slice_bounds-get_pgid_line-start
slice_bounds-get_pgid_line-start c = grind arith

pub returns-in-115 : goal.returns-in-115
returns-in-115 c = grind (arith, common_steps)
