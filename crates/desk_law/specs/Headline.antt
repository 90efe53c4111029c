-- What a crash leaves of a run from an opening, in the words of the programs run one after another.
use Rattle.std.specs.Prelude.{◌≡◌, ℕ, ◌+◌, ◌≤◌, ◌%◌, ◌^◌, List, [], ◌∷◌, ◌++◌, length, take, Some}
use Rattle.desk_law.specs.Below.{begun, commits_seen, Doubt, Event, fine_step, FlatStore, IsRunOf, opened, Program, run, standing_of, Stands, stands, DiskWord}
use Rattle.flat_machine.specs.Serial.{Activation, serial}
use Rattle.desk_law.specs.Left.{IsLeft}

-- An image stands for the first commits of an order, run one after another on the opening store.
pub record IsFirst (activations : List Activation) (number : ℕ) (store : FlatStore) (order : List (ℕ × ℕ)) (image : List ℕ) : Type 0 where
  pub j : ℕ
  pub few : j ≤ length order
  pub left : FlatStore
  pub leaves : serial activations (take j order) store ≡ Some left
  pub stood : stands image ≡ Stands ((number + j) % 2 ^ 64) left

-- And these are all that are seen in what was printed since, and at most one more.
pub record IsPrefix (activations : List Activation) (number : ℕ) (store : FlatStore) (order : List (ℕ × ℕ)) (printed image seen : List ℕ) : Type 0 where
  pub first : IsFirst activations number store order image
  pub since : List ℕ
  pub seen_is : seen ≡ printed ++ since
  pub told : commits_seen since ≤ first.j
  pub most : first.j ≤ commits_seen since + 1

-- what a crash left of a run from an opening is that
abbrev pub LeftIsPrefix : Type 0
LeftIsPrefix =
    (programs : List Program) (number frames most most_lines : ℕ) (store : FlatStore) (events : List Event) (taken : List (Event × DiskWord)) (rest : List Event) (text printed image seen : List ℕ)
    → IsRunOf programs events (opened frames most most_lines store) taken rest
    → IsLeft programs number (opened frames most most_lines store) taken text printed image seen
    → IsPrefix (begun programs events) number store (run programs taken (opened frames most most_lines store)).order printed image seen

-- where the last event ended in doubt, what stands once it goes well is the whole order
abbrev pub DoubtIsWhole : Type 0
DoubtIsWhole =
    (programs : List Program) (number frames most most_lines : ℕ) (store : FlatStore) (events : List Event) (front : List (Event × DiskWord)) (event : Event) (rest : List Event)
    → IsRunOf programs events (opened frames most most_lines store) (front ++ (event, Doubt) ∷ []) rest
    → (fine_step programs event (run programs front (opened frames most most_lines store))).order ≡ (run programs (front ++ (event, Doubt) ∷ []) (opened frames most most_lines store)).order
    → (left : FlatStore) × (serial (begun programs events) (run programs (front ++ (event, Doubt) ∷ []) (opened frames most most_lines store)).order store ≡ Some left)
    × (standing_of number (fine_step programs event (run programs front (opened frames most most_lines store))) ≡ Stands ((number + length (run programs (front ++ (event, Doubt) ∷ []) (opened frames most most_lines store)).order) % 2 ^ 64) left)
