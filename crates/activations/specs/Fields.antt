-- What `Activations` are seen as.
use Rattle.activations.specs.Below.{reach_of}
use Rattle.activations.specs.Activity.{Activity}
use Rattle.activations.specs.declared.activations.Activations.TheInside.{Inside}

abbrev pub activity_of : Inside → Activity
activity_of a =
    record {
      programs = a.programs.items;
      most_lines = a.most_lines;
      next = a.next;
      seating = a.seats;
      live = a.live.items;
      reach = reach_of a.unit;
    }
