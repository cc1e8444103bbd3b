-- Each value in a state is read from its keyword, and from no other.
use Rattle.std.proofs.Common.{◌≡◌, ℕ, true, Some, List, [], ◌∷◌, refl}
use Rattle.ilk_lines.specs.Lines.{Bytes}
use Rattle.ilk_lines.specs.Written.{LacksByte}
use Rattle.ilk_plant.specs.Words.{aspect_from_word, aspect_word, direction_from_word, direction_word, lock_state_from_word, lock_state_word, lie_from_word, lie_word, mode_from_word, mode_word, position_from_word, position_word}
use Rattle.ilk_plant.specs.declared.network.Dir.{Dir}
use Rattle.ilk_plant.specs.declared.network.Dir.TheVariants.{Up, Down}
use Rattle.ilk_plant.specs.declared.network.Position.{Position}
use Rattle.ilk_plant.specs.declared.network.Position.TheVariants.{Plus, Minus}
use Rattle.ilk_plant.specs.declared.state.Aspect.{Aspect}
use Rattle.ilk_plant.specs.declared.state.Aspect.TheVariants.{Open, Closed}
use Rattle.ilk_plant.specs.declared.state.Hold.{Hold}
use Rattle.ilk_plant.specs.declared.state.Hold.TheVariants.{Free as FreeLock, Locked as LockedLock, Used}
use Rattle.ilk_plant.specs.declared.state.Lie.{Lie}
use Rattle.ilk_plant.specs.declared.state.Lie.TheVariants.{Plus as LiesPlus, Minus as LiesMinus, Moving}
use Rattle.ilk_plant.specs.declared.state.Mode.{Mode}
use Rattle.ilk_plant.specs.declared.state.Mode.TheVariants.{Free, Marked, Allocating, Locked, Occupied}
use Rattle.ilk_plant.proofs.WordsBack.{direction_back, position_back}
use Rattle.ilk_replay.proofs.WordTables.{first_value_with_word-word, word_lacks, words_lack}

abbrev modes : List Mode
modes = Free ∷ Marked ∷ Allocating ∷ Locked ∷ Occupied ∷ []

pub mode_back : (x : Mode) → mode_from_word (mode_word x) ≡ Some x
mode_back Free = refl
mode_back Marked = refl
mode_back Allocating = refl
mode_back Locked = refl
mode_back Occupied = refl

pub mode_read : (word : Bytes) (x : Mode) → mode_from_word word ≡ Some x → word ≡ mode_word x
mode_read word x e = first_value_with_word-word mode_word modes word x e

pub mode_lacks : (c : ℕ) (x : Mode) → words_lack c mode_word modes ≡ true → LacksByte c (mode_word x)
mode_lacks c x all = word_lacks c mode_word modes x (mode_back x) all

abbrev lies : List Lie
lies = LiesPlus ∷ LiesMinus ∷ Moving ∷ []

pub lie_back : (x : Lie) → lie_from_word (lie_word x) ≡ Some x
lie_back LiesPlus = refl
lie_back LiesMinus = refl
lie_back Moving = refl

pub lie_read : (word : Bytes) (x : Lie) → lie_from_word word ≡ Some x → word ≡ lie_word x
lie_read word x e = first_value_with_word-word lie_word lies word x e

pub lie_lacks : (c : ℕ) (x : Lie) → words_lack c lie_word lies ≡ true → LacksByte c (lie_word x)
lie_lacks c x all = word_lacks c lie_word lies x (lie_back x) all

abbrev positions : List Position
positions = Plus ∷ Minus ∷ []

pub position_read : (word : Bytes) (x : Position) → position_from_word word ≡ Some x → word ≡ position_word x
position_read word x e = first_value_with_word-word position_word positions word x e

pub position_lacks : (c : ℕ) (x : Position) → words_lack c position_word positions ≡ true → LacksByte c (position_word x)
position_lacks c x all = word_lacks c position_word positions x (position_back x) all

abbrev aspects : List Aspect
aspects = Open ∷ Closed ∷ []

pub aspect_back : (x : Aspect) → aspect_from_word (aspect_word x) ≡ Some x
aspect_back Open = refl
aspect_back Closed = refl

pub aspect_read : (word : Bytes) (x : Aspect) → aspect_from_word word ≡ Some x → word ≡ aspect_word x
aspect_read word x e = first_value_with_word-word aspect_word aspects word x e

pub aspect_lacks : (c : ℕ) (x : Aspect) → words_lack c aspect_word aspects ≡ true → LacksByte c (aspect_word x)
aspect_lacks c x all = word_lacks c aspect_word aspects x (aspect_back x) all

abbrev holds : List Hold
holds = FreeLock ∷ LockedLock ∷ Used ∷ []

pub hold_back : (x : Hold) → lock_state_from_word (lock_state_word x) ≡ Some x
hold_back FreeLock = refl
hold_back LockedLock = refl
hold_back Used = refl

pub hold_read : (word : Bytes) (x : Hold) → lock_state_from_word word ≡ Some x → word ≡ lock_state_word x
hold_read word x e = first_value_with_word-word lock_state_word holds word x e

pub hold_lacks : (c : ℕ) (x : Hold) → words_lack c lock_state_word holds ≡ true → LacksByte c (lock_state_word x)
hold_lacks c x all = word_lacks c lock_state_word holds x (hold_back x) all

abbrev directions : List Dir
directions = Up ∷ Down ∷ []

pub direction_read : (word : Bytes) (x : Dir) → direction_from_word word ≡ Some x → word ≡ direction_word x
direction_read word x e = first_value_with_word-word direction_word directions word x e

pub direction_lacks : (c : ℕ) (x : Dir) → words_lack c direction_word directions ≡ true → LacksByte c (direction_word x)
direction_lacks c x all = word_lacks c direction_word directions x (direction_back x) all
