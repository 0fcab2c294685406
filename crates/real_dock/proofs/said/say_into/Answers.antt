use Rattle.real_dock.proofs.Saying.{text_cut, feed_cut}
use Rattle.real_dock.proofs.said.say_into.Goals as goal

pub returns-in-Err : goal.returns-in-Err
returns-in-Err g c = text_cut _ _ c.args.line.now c.in-Err.refused.went (rw (← c.as_bytes.ensures.value) c.in-Err.ensures.err) (rw (← c.as_bytes.ensures.value) c.in-Err.ensures.went)

pub returns-in-Err-write_whole : goal.returns-in-Err-write_whole
returns-in-Err-write_whole g c = feed_cut _ _ _ c.args.line.now c.in-Err-write_whole.refused.went (rw (← c.as_bytes.ensures.value) c.in-Ok.ensures.ok) c.in-Err-write_whole.ensures.err
