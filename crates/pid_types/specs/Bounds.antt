-- The numbers that Linux and the table are bounded by.
use Rattle.std.specs.Prelude.{ℕ}

-- the level of the deepest namespaces: pid_namespaces(7), "Nesting PID namespaces"
abbrev pub deepest_space : ℕ
deepest_space = 32

-- the level of the deepest control groups, which is the table's own bound
abbrev pub deepest_control : ℕ
deepest_control = 64

-- the numbers from this one on are given again after a restart: RESERVED_PIDS of the kernel's pid.c
abbrev pub reserved_numbers : ℕ
reserved_numbers = 300

-- the greatest bound of process numbers: proc_sys_kernel(5), "PID_MAX_LIMIT, approximately 4 million"
abbrev pub greatest_pid_max : ℕ
greatest_pid_max = 4194304

-- the greatest limit of a control group is the greatest number of processes that there can be
abbrev pub greatest_limit : ℕ
greatest_limit = greatest_pid_max
