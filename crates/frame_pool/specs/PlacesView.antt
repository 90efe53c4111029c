-- The places that `StorePages` keeps.
use Rattle.frame_pool.specs.Places.{Places}
use Rattle.frame_pool.specs.declared.frame_places.FramePlaces.{FramePlaces}

abbrev pub pool_places : FramePlaces → Places
pool_places pages =
    record {
      page = pages.page;
      frames = pages.frames;
      resident = pages.resident.order;
      frame_of = pages.frame_of.items;
      page_in = pages.page_in.items;
      free = pages.free.items;
    }
