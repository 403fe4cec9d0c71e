-- An explanation of a verdict as text: a line a fact, its key first. Each definition has the text so far first, and is that text with what
-- it adds behind it.
pub mod ClauseWords
pub mod RowWords
pub mod RoomFacts
pub mod ReadFacts
pub mod WriteFacts
pub mod RightLines
pub mod Explained
