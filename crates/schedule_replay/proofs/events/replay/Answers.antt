use Rattle.schedule_replay.proofs.events.replay.Goals as goal

pub returns-in-Ok-On : goal.returns-in-Ok-On
returns-in-Ok-On g c = rw c.in-Ok-On.field-0-is at c.in-Ok-On.ensures

pub returns-in-Ok-Closed : goal.returns-in-Ok-Closed
returns-in-Ok-Closed g c = rw c.in-Ok-Closed.field-0-is at c.in-Ok-Closed.ensures

pub returns-in-Ok-Damaged : goal.returns-in-Ok-Damaged
returns-in-Ok-Damaged g c = rw c.in-Ok-Damaged.field-0-is at c.in-Ok-Damaged.ensures
