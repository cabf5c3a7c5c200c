pub mod PostingSize
