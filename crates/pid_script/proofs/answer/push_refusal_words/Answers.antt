use Rattle.std.proofs.Common.{append_assoc}
use Rattle.pid_script.proofs.answer.push_refusal_words.Goals as goal

pub returns-in-NoCaller-clause-items : goal.returns-in-NoCaller-clause-items
returns-in-NoCaller-clause-items g c =
    rw c.in-NoCaller.is (simp append_assoc c.push_bytes.ensures.items)

pub returns-in-NoTask-clause-items : goal.returns-in-NoTask-clause-items
returns-in-NoTask-clause-items g c =
    rw c.in-NoTask.is (simp append_assoc c.push_bytes-in-NoTask.ensures.items)

pub returns-in-NoChild-clause-items : goal.returns-in-NoChild-clause-items
returns-in-NoChild-clause-items g c =
    rw c.in-NoChild.is (simp append_assoc c.push_bytes-in-NoChild.ensures.items)

pub returns-in-NoNumber-clause-items : goal.returns-in-NoNumber-clause-items
returns-in-NoNumber-clause-items g c =
    rw c.in-NoNumber.is (simp append_assoc c.push_bytes-in-NoNumber.ensures.items)

pub returns-in-PidsLimit-clause-items : goal.returns-in-PidsLimit-clause-items
returns-in-PidsLimit-clause-items g c =
    rw c.in-PidsLimit.is (simp append_assoc c.push_bytes-in-PidsLimit.ensures.items)

pub returns-in-SpaceFallen-clause-items : goal.returns-in-SpaceFallen-clause-items
returns-in-SpaceFallen-clause-items g c =
    rw c.in-SpaceFallen.is (simp append_assoc c.push_bytes-in-SpaceFallen.ensures.items)

pub returns-in-TooDeep-clause-items : goal.returns-in-TooDeep-clause-items
returns-in-TooDeep-clause-items g c =
    rw c.in-TooDeep.is (simp append_assoc c.push_bytes-in-TooDeep.ensures.items)

pub returns-in-Elsewhere-clause-items : goal.returns-in-Elsewhere-clause-items
returns-in-Elsewhere-clause-items g c =
    rw c.in-Elsewhere.is (simp append_assoc c.push_bytes-in-Elsewhere.ensures.items)

pub returns-in-BadGroup-clause-items : goal.returns-in-BadGroup-clause-items
returns-in-BadGroup-clause-items g c =
    rw c.in-BadGroup.is (simp append_assoc c.push_bytes-in-BadGroup.ensures.items)

pub returns-in-OtherSession-clause-items : goal.returns-in-OtherSession-clause-items
returns-in-OtherSession-clause-items g c =
    rw c.in-OtherSession.is (simp append_assoc c.push_bytes-in-OtherSession.ensures.items)

pub returns-in-IsLeader-clause-items : goal.returns-in-IsLeader-clause-items
returns-in-IsLeader-clause-items g c =
    rw c.in-IsLeader.is (simp append_assoc c.push_bytes-in-IsLeader.ensures.items)

pub returns-in-NoGroup-clause-items : goal.returns-in-NoGroup-clause-items
returns-in-NoGroup-clause-items g c =
    rw c.in-NoGroup.is (simp append_assoc c.push_bytes-in-NoGroup.ensures.items)

pub returns-in-Executed-clause-items : goal.returns-in-Executed-clause-items
returns-in-Executed-clause-items g c =
    rw c.in-Executed.is (simp append_assoc c.push_bytes-in-Executed.ensures.items)

pub returns-in-RootInit-clause-items : goal.returns-in-RootInit-clause-items
returns-in-RootInit-clause-items g c =
    rw c.in-RootInit.is (simp append_assoc c.push_bytes-in-RootInit.ensures.items)

pub returns-in-NoControl-clause-items : goal.returns-in-NoControl-clause-items
returns-in-NoControl-clause-items g c =
    rw c.in-NoControl.is (simp append_assoc c.push_bytes-in-NoControl.ensures.items)

pub returns-in-ControlBusy-clause-items : goal.returns-in-ControlBusy-clause-items
returns-in-ControlBusy-clause-items g c =
    rw c.in-ControlBusy.is (simp append_assoc c.push_bytes-in-ControlBusy.ensures.items)

pub returns-in-RootControl-clause-items : goal.returns-in-RootControl-clause-items
returns-in-RootControl-clause-items g c =
    rw c.in-RootControl.is (simp append_assoc c.push_bytes-in-RootControl.ensures.items)

pub returns-in-BadLimit-clause-items : goal.returns-in-BadLimit-clause-items
returns-in-BadLimit-clause-items g c =
    rw c.in-BadLimit.is (simp append_assoc c.push_bytes-in-BadLimit.ensures.items)

pub returns-in-ControlDepth-clause-items : goal.returns-in-ControlDepth-clause-items
returns-in-ControlDepth-clause-items g c =
    rw c.in-ControlDepth.is (simp append_assoc c.push_bytes-in-ControlDepth.ensures.items)
