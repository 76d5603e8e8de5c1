-- Frames that pass together, one after the other.
use Rattle.std.proofs.Common.{◌≡◌, ◌≤◌, true, ℕ, ◌+◌, List, [], ◌∷◌, ◌++◌, sym, ap, ◌∙◌, arith, append_assoc, length-append}
use Rattle.std.proofs.lemmas.List.Elements.{All-append, All-cons, All-nil}
use Rattle.mux_frame.specs.Views.{FrameView}
use Rattle.mux_frame.specs.Spelling.{size_of, spelling}
use Rattle.mux_frame.specs.Decoding.{BeginsWithFrame}
use Rattle.tokio_sessions.specs.Passing.{Hands, spelled, TakesRun, GivesRun}
use Rattle.tokio_sessions.proofs.ReadingLemmas.{spelled-one}

-- a sink took one frame more
pub TakesRun_one : {S : Type 0} (takes : Hands S)
    → ((a : S) (xs : List FrameView) (b : S) (ys : List FrameView) (c : S) → takes a xs b → takes b ys c → takes a (xs ++ ys) c)
    → (max count : ℕ) (old : S) (bytes : List ℕ) (f : FrameView) (mid : S) (mid_rest : List ℕ) (new : S) (rest : List ℕ)
    → TakesRun takes max count old bytes mid mid_rest → takes mid (f ∷ []) new → f.as_read ≡ true → BeginsWithFrame max mid_rest f.frame rest
    → TakesRun takes max (count + 1) old bytes new rest
TakesRun_one takes in_order max count old bytes f mid mid_rest new rest run took as_read begins = record {
  frames = run.frames ++ f ∷ [];
  taken = in_order old run.frames mid (f ∷ []) new run.taken took;
  within = let Within = λ (g : FrameView). (g.as_read ≡ true) × (size_of g.frame ≤ max) in
      All-append Within run.frames (f ∷ []) run.within (All-cons Within f [] (as_read, begins.1) (All-nil Within));
  cut = run.cut ∙ ap (λ xs. spelled run.frames ++ xs) begins.2 ∙ sym (append_assoc (spelled run.frames) (spelling f.frame) rest)
      ∙ ap (λ xs. xs ++ rest) (sym (spelled-one run.frames f));
  counted = omega (arith, run.counted, length-append run.frames (f ∷ []));
}

-- a queue gave one frame more
pub GivesRun_one : (count : ℕ) (old : List FrameView) (bytes : List ℕ) (f : FrameView) (mid : List FrameView) (mid_all : List ℕ) (new : List FrameView) (all : List ℕ)
    → GivesRun (λ a xs b. a ≡ xs ++ b) count old bytes mid mid_all → mid ≡ f ∷ new → all ≡ mid_all ++ spelling f.frame
    → GivesRun (λ a xs b. a ≡ xs ++ b) (count + 1) old bytes new all
GivesRun_one count old bytes f mid mid_all new all run first one = record {
  frames = run.frames ++ f ∷ [];
  given = run.given ∙ ap (λ fs. run.frames ++ fs) first ∙ sym (append_assoc run.frames (f ∷ []) new);
  joined = one ∙ ap (λ xs. xs ++ spelling f.frame) run.joined ∙ append_assoc bytes (spelled run.frames) (spelling f.frame) ∙ ap (λ xs. bytes ++ xs) (sym (spelled-one run.frames f));
  counted = omega (arith, run.counted, length-append run.frames (f ∷ []));
}
