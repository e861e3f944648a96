-- A call by itself.
use Rattle.std.specs.Prelude.{Bool, true, false}
use Rattle.host_calls.specs.declared.call.CallState.{CallState}
use Rattle.host_calls.specs.declared.call.CallState.TheVariants.{Queued, Entered, Answered, NotKnown, NotMade, Cancelled}
use Rattle.host_calls.specs.declared.call.HostCall.{HostCall}

-- it is answered, or its caller was told that it will not be
abbrev pub is_over : CallState → Bool
is_over Queued = false
is_over Entered = false
is_over Answered = true
is_over NotKnown = true
is_over NotMade = true
is_over Cancelled = true

abbrev pub is_queued : CallState → Bool
is_queued Queued = true
is_queued Entered = false
is_queued Answered = false
is_queued NotKnown = false
is_queued NotMade = false
is_queued Cancelled = false

-- its caller was told that it is never made
abbrev pub is_unmade : CallState → Bool
is_unmade Queued = false
is_unmade Entered = false
is_unmade Answered = false
is_unmade NotKnown = false
is_unmade NotMade = true
is_unmade Cancelled = true

-- a cancel, which serves one that waits alone
abbrev pub cancelled_state : CallState → CallState
cancelled_state Queued = Cancelled
cancelled_state Entered = Entered
cancelled_state Answered = Answered
cancelled_state NotKnown = NotKnown
cancelled_state NotMade = NotMade
cancelled_state Cancelled = Cancelled

-- nobody waits for it any more
abbrev pub given_up_state : CallState → CallState
given_up_state Queued = NotMade
given_up_state Entered = NotKnown
given_up_state Answered = Answered
given_up_state NotKnown = NotKnown
given_up_state NotMade = NotMade
given_up_state Cancelled = Cancelled

abbrev pub cancelled : HostCall → HostCall
cancelled c = record c { state = cancelled_state c.state }

abbrev pub given_up : HostCall → HostCall
given_up c = record c { state = given_up_state c.state }
