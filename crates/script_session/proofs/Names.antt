-- The words of scripts that the lemmas cite, passed on from one place. Declares nothing.
pub use Rattle.pid_types.specs.declared.call.Call.{Call}
pub use Rattle.pid_types.specs.declared.reply.Reply.{Reply}
pub use Rattle.pid_types.specs.declared.reply.CallFault.{CallFault}
pub use Rattle.pid_types.specs.State.{State}
pub use Rattle.pid_types.specs.Devices.{Event, Reading, Writing, heard_by, heard, said_by, said, readings, IsWell, AreWell}
pub use Rattle.pid_types.specs.DeviceLaws.{some_is_none, AreWell-more, readings-more, no_readings, Consumes-more, Consumes-nothing, Consumes-keeps}
pub use Rattle.pid_script.specs.declared.line.Line.{Line}
pub use Rattle.script_session.specs.declared.tally.Tally.{Tally}
pub use Rattle.script_session.specs.declared.tally.RunScriptFault.{RunScriptFault}
pub use Rattle.script_session.specs.declared.tally.RunScriptFault.TheVariants.{Write}
pub use Rattle.script_session.specs.declared.job.JobFault.{JobFault}
pub use Rattle.pid_script.specs.Script.{with_newline, said_of, said_whole, said_within, kept_after, said_next, last_said, kept_line, kept_more}
pub use Rattle.script_session.specs.Progress.{Progress, HasStopped, at_start, with_answer, with_step, found_none, MayStarve, MayAllStarve, SaysScript, after_saying, after_script_line}
unfoldable pub use Rattle.script_session.specs.Progress.{after_asking, after_script}
pub use Rattle.script_session.specs.Session.{Acts, is_starved, made_by, Leads, ended_at, progress_of, Answers, StopsShort, Halts, Breaks, Finishes, IsTallied}
pub use Rattle.script_session.specs.Dialogue.{Sends, Stalls, Queues, SendsPart, Responds, is_end, lines_heard, IsAnswered, IsCutShort, Follows, EachAfter, Converses}
pub use Rattle.script_session.specs.Job.{IsMet, IsLineRead, calls_said, AreGood, IsReached, Yields, MeetsFault, Adds, IsStopped}
pub use Rattle.pid_script.specs.Answers.{fault_text, answer_of, replied}
unfoldable pub use Rattle.pid_script.specs.Answers.{reply_text}
pub use Rattle.std.specs.Io.KnownBytes.{Appends, Consumes, IsAtEnd}
