-- From what the words need to what they need of an outside that holds these bytes.
use Rattle.std.specs.Prelude.{IsTrue, IsSome}
use Rattle.file_runs.proofs.Common.{◌≡◌, ◌∙◌, ap, sym, subst, refl, List, ℕ, [], Option, Some, Ghosts, held_of, unwrap_or}
use Rattle.call_status.specs.Opening.{IsStanding}
use Rattle.console.specs.Causes.{HasAll}
use Rattle.console.specs.declared.command_words.Command.{Command}
use Rattle.console.specs.declared.command_words.Command.TheVariants as command
use Rattle.store.specs.Shows.{Shows}
use Rattle.file_runs.specs.FileNeeds.{HasAllOnFile, StandsWith}

module _ {W : Type 0} (G : Ghosts W) (before : W) (first : List ℕ) (honest : IsTrue (G.is_honest before)) (held : G.held before ≡ Some first) where
  has_told : IsSome (G.held before)
  has_told = subst (λ (those : Option (List ℕ)). IsSome those) (sym held) refl

  is_first : held_of G before ≡ first
  is_first = ap (λ (those : Option (List ℕ)). unwrap_or those []) held

  pub has_all_of : (left : Option (List ℕ)) (form : Command) → HasAllOnFile form left first → HasAll G form left before
  has_all_of left command.Run has = (has.0, (honest, has_told, subst IsStanding (sym is_first) has.1))
  has_all_of left (command.Show range) has = (has_told, λ told. subst (StandsWith range) (sym is_first) has)
  has_all_of left (command.New header) has = held ∙ ap Some has
  has_all_of left (command.Renew bank) has = (has.0, held ∙ ap Some has.1)
  has_all_of left (command.Ship from) has = record {
    told = has_told;
    stood = subst IsStanding (sym is_first) has.0;
    keeps = λ store shows. has.1 store (subst (λ (bytes : List ℕ). Shows bytes store) is_first shows);
  }
  has_all_of left command.Follow has = record {
    text = has.text;
    has_text = has.has_text;
    few = has.few;
    content = has.content;
    is_content = has.is_content;
    means = has.means;
    told = has_told;
    stood = subst IsStanding (sym is_first) has.stood;
    follows = λ content is means store shows. has.follows content is means store (subst (λ (bytes : List ℕ). Shows bytes store) is_first shows);
  }
  has_all_of left command.Try has = (has.0, (honest, has_told, subst IsStanding (sym is_first) has.1))
  has_all_of left command.List has = has
  has_all_of left command.Drill has = has
  has_all_of left (command.Big transfers) has = (honest, has_told, subst IsStanding (sym is_first) has)
  has_all_of left command.Audit has = has
  has_all_of left (command.Trace activation) has = has
