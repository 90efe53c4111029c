-- What a `Cs` is seen as.
use Rattle.std.specs.Prelude.{◌%◌, ◌^◌, nat_lt, nat_le, ◌==◌, ◌&&◌}
use Rattle.flat_machine.specs.Status.{Status, overflows}
use Rattle.flat_machine.specs.declared.machine.Cs.TheInside.{Inside}

-- how two numbers stand, both of 32 bits where they were compared; and how two words stand to their whole sum
abbrev pub status_shown : Inside → Status
status_shown cs =
    record {
      lt = nat_lt cs.left cs.right;
      eq = cs.left == cs.right;
      gt = nat_lt cs.right cs.left && nat_lt cs.left (2 ^ 32);
      c0 = nat_le (2 ^ 32) cs.wide;
      ov = overflows cs.x cs.y (cs.wide % 2 ^ 32);
    }
