use Rattle.activations.proofs.Lemmas.{◌∙◌, arith, counts-none, counts-one, counts-two, first_within, second_within}
use Rattle.activations.proofs.activations.Activations.lines_with.Goals as goal

pub new_lines-requires-in-Two-clause-page : goal.new_lines-requires-in-Two-clause-page
new_lines-requires-in-Two-clause-page c = first_within _ c.args.touch.now c.in-Two.first c.in-Two.second c.requires.wanted.within c.in-Two.is

pub new_lines-requires-in-Two-2-clause-page : goal.new_lines-requires-in-Two-2-clause-page
new_lines-requires-in-Two-2-clause-page c = second_within _ c.args.touch.now c.in-Two.first c.in-Two.second c.requires.wanted.within c.in-Two.is

pub returns-in-Nothing : goal.returns-in-Nothing
returns-in-Nothing c = c.held_lines-held.ensures.value ∙ counts-none c.args.self.now c.args.seat c.held_lines-held.ensures.sound c.args.touch.now c.in-Nothing.is

pub returns-in-One : goal.returns-in-One
returns-in-One c =
    omega (arith, c.held_lines-held.ensures.value, c.new_lines.ensures.value, counts-one c.args.self.now c.args.seat c.held_lines-held.ensures.sound c.args.touch.now c.requires.wanted c.in-One.only c.in-One.is)

pub returns-in-Two : goal.returns-in-Two
returns-in-Two c =
    omega (
      arith,
      c.held_lines-held.ensures.value,
      c.new_lines-in-Two.ensures.value,
      c.new_lines-in-Two-2.ensures.value,
      counts-two c.args.self.now c.args.seat c.held_lines-held.ensures.sound c.args.touch.now c.requires.wanted c.in-Two.first c.in-Two.second c.in-Two.is,
    )
