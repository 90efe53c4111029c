-- The segment registers of a program.
use Rattle.std.specs.Prelude.{ℕ, ◌∷◌, map, Option, Some, None, option_map}
use Rattle.lines.specs.Directory.{Layout, length_of}
use Rattle.page_table.specs.declared.segment_regs.SegmentRegister.{SegmentRegister}
use Rattle.page_table.specs.Registers.{Registers, private_register}
use Rattle.flat_machine.specs.declared.machine.Program.{Program}
use Rattle.flat_machine.specs.declared.machine.Window.{Window}

-- what stands under the register of a window: nothing where there is none, or where the store lacks its segment
abbrev pub register_of_window : Layout → Option Window → Option SegmentRegister
register_of_window directory None = None
register_of_window directory (Some window) =
    option_map
    (λ length. record { segment = window.segment; bytes = length; write = window.write })
    (length_of directory window.segment)

-- the private segment under register 0, and the windows under the others
abbrev pub registers_of_program : Program → Layout → (private : ℕ) → Registers
registers_of_program program directory private =
    record { page = directory.page; list = Some (private_register private) ∷ map (register_of_window directory) program.windows }
