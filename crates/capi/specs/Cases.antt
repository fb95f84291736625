pub mod SizesTaken
